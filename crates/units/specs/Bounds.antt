-- Bound triples: document 01, "A bound triple is (k1, k2, k3) .. k1 at least 1", and the named ones, with M-100's.
use Rattle.std.specs.Prelude.{ℕ, cond, eqb, Result, Ok, Err}
use Rattle.units.specs.declared.Bounds.{Bounds}
use Rattle.units.specs.declared.refusal.Refusal.{Refusal}
use Rattle.units.specs.Refusal.{number_of}

abbrev pub triple : ℕ → ℕ → ℕ → Bounds
triple k1 k2 k3 = record { k1 = k1; k2 = k2; k3 = k3 }

-- "65,535 is called any in these papers"
abbrev pub any_bound : ℕ
any_bound = 65535

abbrev pub snapshot : Bounds
snapshot = triple 1 0 any_bound

-- M-100: "The default becomes (2, 0, 1)": a copy is often one version late
abbrev pub default : Bounds
default = triple 2 0 1

-- M-100: "calibration transactions now tune to (1, 0, 0) themselves, and the judge keeps (1, 0, 0) for a transaction without a `k` line"
abbrev pub calibration : Bounds
calibration = triple 1 0 0

-- what the constructor of a triple answers, in document 01's numbers
pub data TripleReply : Type 0 where
  refused : (number : ℕ) → TripleReply
  taken : Bounds → TripleReply

abbrev pub triple_reply : Result Bounds Refusal → TripleReply
triple_reply (Ok b) = taken b
triple_reply (Err f) = refused (number_of f)

-- "9: k1 is 0"
unfoldable pub bounded : ℕ → ℕ → ℕ → TripleReply
bounded k1 k2 k3 = cond (eqb k1 0) (refused 9) (taken (triple k1 k2 k3))

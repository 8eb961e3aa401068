-- Two replies that the judge's contract allows for one input are equal, and so are the rooms.
use Prim.Native.Nat.{ℕ}
use native.Mathlib.Omega.{arith}
use mathlib.Core.Path.{◌≡◌, refl, sym, ap, ◌∙◌}
use mathlib.Core.List.{List}
use Rattle.units.specs.Refusal.{number_of}
use Rattle.units.proofs.Numbers.{number_inj}
use Rattle.std.specs.Prelude.{Result, Ok, Err}
use Rattle.verdict.specs.declared.RefusedAt.{RefusedAt}
use Rattle.verdict.specs.Judge.{report_of}
use Rattle.verdict.specs.Reply.{reply_of, replied, room_after}

-- document 01's numbers name the answer
pub reply_inj : (a b : Result ℕ RefusedAt) → reply_of a ≡ reply_of b → a ≡ b
reply_inj (Ok m) (Ok n) e = let p : m ≡ n = cc in rw p
reply_inj (Ok m) (Err r) e = let z : ◌≡◌ {A = ℕ} 0 1 = cc in absurd (omega arith)
reply_inj (Err r) (Ok n) e = let z : ◌≡◌ {A = ℕ} 0 1 = cc in absurd (omega arith)
reply_inj (Err r) (Err s) e =
    let p : number_of r.refusal ≡ number_of s.refusal = cc in
    let q : r.line ≡ s.line = cc in
    let same : record { refusal = r.refusal; line = r.line } ≡ s = rw (number_inj r.refusal s.refusal p, q) refl in
    ap Err same

-- judge
pub judge_one : (text room : List ℕ) {a b : Result ℕ RefusedAt} {c d : List ℕ}
    → (reply_of a ≡ replied (report_of text) room) × (c ≡ room_after (report_of text) room)
    → (reply_of b ≡ replied (report_of text) room) × (d ≡ room_after (report_of text) room)
    → (a ≡ b) × (c ≡ d)
judge_one text room {a} {b} p q = (reply_inj a b (p.0 ∙ sym q.0), p.1 ∙ sym q.1)

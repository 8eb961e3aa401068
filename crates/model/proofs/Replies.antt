-- Replies of different kinds are different; and what a reply tells.
use Prim.Native.Nat.{ℕ}
use mathlib.Core.Path.{◌≡◌, subst, ap}
use mathlib.Core.Bool.{not}
use lib.Dec.{T, eqb, eqb_refl, T_not}
use lib.IntN.{ℤ, pos}
use Rattle.units.specs.Version.{start_version}
use Rattle.units.specs.declared.rule.Rule.{Rule}
use Rattle.units.specs.declared.rule.Rule.TheVariants.{BV}
use Rattle.units.specs.declared.Version.{Version}
use Rattle.model.specs.Call.{Reply, refused, started, version, own, done, apart_by, committed, aborted, made, made_by}

-- what a reply carries, whatever its kind; what it does not carry is 0
pub record Told : Type 0 where
  pub kind : ℕ
  pub number : ℕ
  pub value : ℤ
  pub version : Version
  pub rule : Rule

abbrev numbered : ℕ → ℕ → Told
numbered k n = record { kind = k; number = n; value = pos 0; version = start_version; rule = BV 0 }

abbrev valued : ℕ → ℤ → Told
valued k v = record { kind = k; number = 0; value = v; version = start_version; rule = BV 0 }

abbrev pub told : Reply → Told
told (refused n) = numbered 0 n
told (started n) = numbered 1 n
told (version v) = record { kind = 2; number = 0; value = pos 0; version = v; rule = BV 0 }
told (own v) = valued 3 v
told done = numbered 4 0
told (apart_by d) = valued 5 d
told (committed n) = numbered 6 n
told (aborted r) = record { kind = 7; number = 0; value = pos 0; version = start_version; rule = r }
told (made es) = numbered 8 0
told (made_by n) = numbered 9 n

abbrev pub kind : Reply → ℕ
kind r = (told r).kind

-- cited as `other e tt`
pub other : {X : Type 0} {r q : Reply} → r ≡ q → T (not (eqb (kind r) (kind q))) → X
other {r = r} {q = q} e t = absurd (T_not (eqb (kind r) (kind q)) t (subst (λ (k : ℕ). T (eqb (kind r) k)) (ap kind e) (eqb_refl (kind r))))

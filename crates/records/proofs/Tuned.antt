-- The bounds of a transaction in a written history: "`k` T k1 k2 k3 (tune, k1 from 1; the last one counts)", and by M-100 (1, 0, 0) without a `k` line.
use Prim.Native.Nat.{ℕ}
use mathlib.Core.Path.{◌≡◌, refl, ◌∙◌, ap, subst}
use mathlib.Core.Logic.{◌↔◌}
use mathlib.Core.Bool.{Bool, true, false, ◌&&◌}
use mathlib.Core.List.{◌∷◌, ◌++◌}
use lib.Dec.{eqb}
use borrow.Author.Tests.{eqb-true, eq-eqb}
use Rattle.lists.specs.Lists.{Every, none, also}
use Rattle.units.specs.Bounds.{triple}
use Rattle.units.specs.declared.Bounds.{Bounds}
use Rattle.records.specs.declared.Record.{Record}
use Rattle.records.specs.declared.Record.TheVariants.{Tune}
use Rattle.records.specs.declared.Verdict.{Verdict}
use Rattle.records.specs.declared.Verdict.TheVariants.{Ok}
use Rattle.records.specs.Parts.{parts_of, name_of, tunes, is_tune}
use Rattle.records.specs.Written.{History, bounds_in, NoTune, KeptBy}
use Rattle.records.specs.Judge.{Names}
use Rattle.records.proofs.Parts.{tune_is}

untuned : (t : ℕ) (r : Record) → NoTune t r → is_tune t r ≡ false
untuned t r n = go (tunes r) refl (eqb (name_of r) t) refl
  where
    go : (a : Bool) → tunes r ≡ a → (b : Bool) → eqb (name_of r) t ≡ b → (a && b) ≡ false
    go true k true e = absurd (n (parts_of r).bounds (tune_is r k ∙ ap (λ (u : ℕ). Tune u (parts_of r).bounds) (eqb-true (name_of r) t e)))
    go true k false e = refl
    go false k b e = refl

module _ (t : ℕ) where
  -- a `k` line of t, whatever stands before it, and no other behind it
  pub last_counts : {newer : History} (older : History) (b : Bounds) → Every (NoTune t) newer → bounds_in (newer ++ (Tune t b ∷ older)) t ≡ b
  unfolding bounds_in
  last_counts older b none = rw (eq-eqb t t refl)
  last_counts older b (also {x = r} n ns) = rw (untuned t r n) (last_counts older b ns)

  -- no `k` line of t: "the judge keeps (1, 0, 0) for a transaction without a `k` line, as old files mean that"
  pub else_calibration : {h : History} → Every (NoTune t) h → bounds_in h t ≡ triple 1 0 0
  unfolding bounds_in
  else_calibration none = refl
  else_calibration (also {x = r} n ns) = rw (untuned t r n) (else_calibration ns)

  -- so a right verdict calls it ok exactly if the rules hold by (1, 0, 0)
  pub judged-calibration : {h : History} {v : Verdict} → Every (NoTune t) h → Names h t v → (v ≡ Ok) ↔ KeptBy h t (triple 1 0 0)
  judged-calibration {h} {v} ns n = subst (λ (b : Bounds). (v ≡ Ok) ↔ KeptBy h t b) (else_calibration ns) n.ok

-- The answers of the code, as the rules of document 01: a law for each.
use Prim.Native.Nat.{ℕ, suc, ◌<◌, ◌≤◌}
use native.Mathlib.Omega.{arith}
use mathlib.Core.Path.{◌≡◌, refl, sym, ◌∙◌, ap, subst, fun_ext}
use mathlib.Core.Bool.{Bool, true, false, cond, ◌||◌}
use mathlib.Core.List.{List, [], ◌∷◌}
use lib.ListN.{length, get_or}
use borrow.Author.Tests.{lt-ltb, le-ltb, ltb-true, ltb-false}
use lib.Dec.{ltb}
use Rattle.std.specs.Prelude.{Some, None, Result, Ok, Err}
use Rattle.std.specs.List.{position, position_or_len}
use Rattle.lists.specs.Lists.{find, any}
use Rattle.lists.proofs.Find.{find-holds}
use Rattle.lists.proofs.Std.{find-position}
use Rattle.units.specs.declared.rule.Rule.{Rule}
use Rattle.units.specs.declared.rule.Rule.TheVariants.{BV, FV, SV, WC}
use Rattle.transaction.specs.declared.Mark.{Mark}
use Rattle.transaction.specs.declared.Transaction.{Transaction}
use Rattle.transaction.specs.Transaction.{reads_of, writes_of, no_mark}
use Rattle.model.specs.Log.{Entry}
use Rattle.model.specs.Rules.{stale, early, apart, overtaken, broken_at, certified, ◌or_else◌}
use Rattle.rules.specs.Tests.{outside, parted, torn, latest}
use Rattle.rules.proofs.Reaching.{torn_by}

-- what a search answers
module _ {A : Type 0} (p : A → Bool) (l : List A) where
  pub place_found : (i : ℕ) → Some i ≡ position p l → (i ≡ find p l) × (i < length l)
  place_found i e = go (ltb (position_or_len p l) (length l)) refl e
    where
      go : (b : Bool) → ltb (position_or_len p l) (length l) ≡ b → Some i ≡ cond b (Some (position_or_len p l)) None → (i ≡ find p l) × (i < length l)
      go true h e = let is : i ≡ position_or_len p l = cc in (is ∙ sym (find-position p l), omega (arith, ltb-true (position_or_len p l) (length l) h))
      go false h e = absurd (cc)

  pub place-missed : None ≡ position p l → length l ≤ find p l
  place-missed e = go (ltb (position_or_len p l) (length l)) refl e
    where
      go : (b : Bool) → ltb (position_or_len p l) (length l) ≡ b → None ≡ cond b (Some (position_or_len p l)) None → length l ≤ find p l
      go true h e = absurd (cc)
      go false h e = omega (arith, ltb-false (position_or_len p l) (length l) h, find-position p l)

-- a rule whose first break is a place, and one that is not broken
module _ {A : Type 0} (rule : ℕ → Rule) (p : A → Bool) (l : List A) where
  pub broken : (i : ℕ) → i ≡ find p l → i < length l → broken_at rule p l ≡ Err (rule i)
  unfolding broken_at
  broken i e h = rw (← e, lt-ltb i (length l) h)

  pub kept : (i : ℕ) → i ≡ find p l → length l ≤ i → broken_at rule p l ≡ Ok tt
  unfolding broken_at
  kept i e h = rw (← e, le-ltb i (length l) h)

-- where a test holds anywhere, it holds at a place
any-found : {A : Type 0} (p : A → Bool) (l : List A) → any p l ≡ true → length l ≤ find p l → ⊥
unfolding any find
any-found p [] e h = cc
any-found p (x ∷ xs) e h = go (p x) (any-found p xs) e h
  where
    go : (b : Bool) → (any p xs ≡ true → length xs ≤ find p xs → ⊥) → (b || any p xs) ≡ true → length (x ∷ xs) ≤ cond b 0 (suc (find p xs)) → ⊥
    go true r e h = absurd (omega arith)
    go false r e h = r e (omega arith)

-- SV, by the read that is apart from the latest and the first that it is apart from
module _ (log : List Entry) (t : Transaction) (last : ℕ) (late : last ≡ latest (reads_of t)) where
  abbrev pair : ℕ → Rule
  pair k = SV k (find (apart log t (get_or (reads_of t) k no_mark)) (reads_of t))

  abbrev some : Mark → Bool
  some x = any (apart log t x) (reads_of t)

  same : torn log t last ≡ some
  same = fun_ext (torn_by log t last (reads_of t) late)

  pub none_parted : None ≡ position (torn log t last) (reads_of t) → Ok tt ≡ parted log t
  unfolding parted
  none_parted e = sym (kept pair some (reads_of t) (find some (reads_of t)) refl (place-missed some (reads_of t) (subst (λ (p : Mark → Bool). None ≡ position p (reads_of t)) same e)))

  module _ (x : ℕ) (e : Some x ≡ position (torn log t last) (reads_of t)) (r : Mark) (read : r ≡ get_or (reads_of t) x no_mark) where
    here : (x ≡ find some (reads_of t)) × (x < length (reads_of t))
    here = place_found some (reads_of t) x (subst (λ (p : Mark → Bool). Some x ≡ position p (reads_of t)) same e)

    pub parted_at : (y : ℕ) → Some y ≡ position (apart log t r) (reads_of t) → Err (SV x y) ≡ parted log t
    unfolding parted
    parted_at y f =
        ap (λ (k : ℕ). Err (SV x k)) ((place_found (apart log t r) (reads_of t) y f).0 ∙ ap (λ (m : Mark). find (apart log t m) (reads_of t)) read)
        ∙ sym (broken pair some (reads_of t) x here.0 here.1)

    pub parted-somewhere : None ≡ position (apart log t r) (reads_of t) → Ok tt ≡ parted log t
    parted-somewhere f = absurd (any-found (apart log t r) (reads_of t) (rw read (rw here.0 (find-holds some (reads_of t) no_mark (omega (arith, here.0, here.1))))) (place-missed (apart log t r) (reads_of t) f))

-- the rules in document 01's order
module _ (log : List Entry) (t : Transaction) where
  in_order : certified log t ≡ ((outside log t or_else parted log t) or_else broken_at WC (overtaken log t) (writes_of t))
  unfolding certified outside parted
  in_order = go (broken_at BV (stale log t) (reads_of t)) (broken_at FV (early log t) (reads_of t)) (parted log t) (broken_at WC (overtaken log t) (writes_of t))
    where
      go : (a b c d : Result (Unit {0}) Rule) → (a or_else (b or_else (c or_else d))) ≡ (((a or_else b) or_else c) or_else d)
      go (Ok u) (Ok v) (Ok w) d = refl
      go (Ok u) (Ok v) (Err r) d = refl
      go (Ok u) (Err r) c d = refl
      go (Err r) b c d = refl

  pub breaks_within : (q : Rule) → Err q ≡ outside log t → Err q ≡ certified log t
  breaks_within q e = rw (in_order, ← e)

  module _ (within : Ok tt ≡ outside log t) where
    pub breaks_SV : (q : Rule) → Err q ≡ parted log t → Err q ≡ certified log t
    breaks_SV q e = rw (in_order, ← within, ← e)

    module _ (together : Ok tt ≡ parted log t) where
      pub breaks_WC : (w : ℕ) → Some w ≡ position (overtaken log t) (writes_of t) → Err (WC w) ≡ certified log t
      breaks_WC w e =
          let k = place_found (overtaken log t) (writes_of t) w e in
          rw (in_order, ← within, ← together, broken WC (overtaken log t) (writes_of t) w k.0 k.1)

      pub all_kept : None ≡ position (overtaken log t) (writes_of t) → Ok tt ≡ certified log t
      all_kept e = rw (in_order, ← within, ← together, kept WC (overtaken log t) (writes_of t) (find (overtaken log t) (writes_of t)) refl (place-missed (overtaken log t) (writes_of t) e))

-- what the check finds the answers by
pub ruleset verdicts = (none_parted, parted_at, parted-somewhere, breaks_within, breaks_SV, breaks_WC, all_kept)

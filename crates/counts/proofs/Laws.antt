-- What the counts of document 01 are in terms of those that the code walks for.
use Prim.Native.Nat.{ℕ, suc, ◌+◌, ◌-◌, ◌<◌, ◌≤◌}
use native.Mathlib.Omega.{arith}
use native.Mathlib.Numerals.{add-one}
use mathlib.Core.Path.{◌≡◌, refl, sym, ◌∙◌, ap, fun_ext}
use mathlib.Core.Bool.{Bool, true, false, cond, ◌&&◌, ◌||◌, and-false}
use mathlib.Core.List.{List, [], ◌∷◌}
use lib.Dec.{eqb, leb, ltb, leb-suc-suc}
use borrow.Author.Tests.{ltb-true, leb-true, leb-false, lt-ltb, le-ltb}
use Rattle.lists.specs.Lists.{count, any}
use Rattle.lists.proofs.Every.{every_each}
use Rattle.lists.proofs.Count.{count_none}
use Rattle.lists.proofs.Tests.{leb-before}
use Rattle.model.specs.Log.{Entry, of_key, up_to, between, changed_after, versions}
use Rattle.memory.specs.Memory.{entry_at, entries}
use Rattle.counts.specs.Where.{counted}

-- one version more, of which the test holds, and of which it does not
module _ (p : ℕ → ℕ → Bool) (ws : List ℕ) (i n : ℕ) (before : n ≡ counted p (entries ws i)) where
  pub counted-hit : p (entry_at ws i).key (entry_at ws i).stamp ≡ true → n + 1 ≡ counted p (entries ws (i + 1))
  unfolding counted entries count
  counted-hit h = rw (add-one i, h, before, add-one)

  pub counted-miss : p (entry_at ws i).key (entry_at ws i).stamp ≡ false → n ≡ counted p (entries ws (i + 1))
  unfolding counted entries count
  counted-miss h = rw (add-one i, h) before

-- "strictly after .. and strictly before", of two stamps in order
pub strictly : (log : List Entry) (x after before : ℕ) → after < before
    → counted (λ (k t : ℕ). eqb k x && (leb (after + 1) t && leb t (before - 1))) log ≡ between log x after before
unfolding counted between
strictly log x after before h = ap (λ (p : Entry → Bool). count p log) (fun_ext (λ (e : Entry). rw (add-one after, leb-before e.stamp before (omega arith))))

-- and of two that are not: nothing lies between
pub nothing-between : (log : List Entry) (x after before : ℕ) → before ≤ after → 0 ≡ between log x after before
unfolding between
nothing-between log x after before h = sym (count_none _ (every_each (λ e. go (of_key x e) e.stamp (ltb after e.stamp) refl) log))
  where
    go : (k : Bool) (s : ℕ) (b : Bool) → ltb after s ≡ b → (k && (ltb after s && ltb s before)) ≡ false
    go k s true e = rw (e, le-ltb s before (omega (arith, ltb-true after s e))) (and-false k)
    go k s false e = rw e (and-false k)

-- a key that has more versions than up to t has one after t
up_to_le : (log : List Entry) (x t : ℕ) → up_to log x t ≤ versions log x
unfolding up_to versions count
up_to_le [] x t = omega arith
up_to_le (e ∷ es) x t = go (of_key x e) (leb e.stamp t) (up_to_le es x t)
  where
    go : (k b : Bool) {m n : ℕ} → m ≤ n → cond (k && b) (suc m) m ≤ cond k (suc n) n
    go true true h = omega arith
    go true false h = omega arith
    go false b h = h

more_than_up_to : (log : List Entry) (x t : ℕ) → ltb (up_to log x t) (versions log x) ≡ changed_after log x t
unfolding up_to versions changed_after count any
more_than_up_to [] x t = refl
more_than_up_to (e ∷ es) x t = go (of_key x e) e.stamp (leb e.stamp t) refl (up_to es x t) (versions es x) (changed_after es x t) (up_to_le es x t) (more_than_up_to es x t)
  where
    go : (k : Bool) (s : ℕ) (b : Bool) → leb s t ≡ b → (m n : ℕ) (c : Bool) → m ≤ n → ltb m n ≡ c
        → ltb (cond (k && leb s t) (suc m) m) (cond k (suc n) n) ≡ ((k && ltb t s) || c)
    go true s true e m n c h i = rw (e, le-ltb t s (leb-true s t e)) (leb-suc-suc (suc m) n ∙ i)
    go true s false e m n c h i = rw (e, lt-ltb t s (leb-false s t e)) (lt-ltb m (suc n) (omega arith))
    go false s b e m n c h i = i

pub changed : (log : List Entry) (x t : ℕ) {m n : ℕ} → m ≡ up_to log x t → n ≡ versions log x → ltb m n ≡ changed_after log x t
changed log x t e f = rw (e, f) (more_than_up_to log x t)

-- The rows of a ledger, found and changed by name: what each search answers after a change. Every list of rows is taken.
use Prim.Native.Nat.{ℕ, suc, ◌+◌}
use native.Mathlib.Omega.{arith}
use mathlib.Core.Path.{◌≡◌, refl, sym, ◌∙◌, ap}
use mathlib.Core.Logic.{◌≢◌}
use mathlib.Core.Bool.{Bool, true, false, cond, ◌||◌, or-true, true≢false, false≢true}
use mathlib.Core.List.{List, [], ◌∷◌, map}
use lib.Dec.{eqb}
use lib.ListN.{length}
use borrow.Author.Tests.{eqb-true, eq-eqb, ne_eqb}
use Rattle.lists.specs.Lists.{any, count, bit, Every, none, also}
use Rattle.lists.specs.Members.{Distinct, apart}
use Rattle.lists.proofs.Every.{every_both}
use Rattle.records.specs.declared.Row.{Row}
use Rattle.records.specs.declared.Record.{Record}
use Rattle.records.specs.declared.Record.TheVariants.{Start, Tune, Read, Write, Commit, Abort}
use Rattle.records.specs.Ledger.{row_of, become, named, is_open, no_row, changed, is_recorded, with_last}

-- a name that no row has gets the row that has ended
pub unnamed : (rs : List Row) (t : ℕ) → any (named t) rs ≡ false → row_of rs t ≡ no_row
unfolding any row_of
unnamed [] t e = refl
unnamed (r ∷ rs) t e = go (named t r) (unnamed rs t) e
  where
    go : (b : Bool) → (any (named t) rs ≡ false → row_of rs t ≡ no_row) → (b || any (named t) rs) ≡ false → cond b r (row_of rs t) ≡ no_row
    go true k e = absurd (true≢false e)
    go false k e = k e

-- an open row is there, under its name
pub open-named : (rs : List Row) (t : ℕ) → is_open (row_of rs t) ≡ true → (row_of rs t).name ≡ t
unfolding row_of
open-named [] t e = absurd (false≢true e)
open-named (r ∷ rs) t e = go (named t r) refl (open-named rs t) e
  where
    go : (b : Bool) → named t r ≡ b → (is_open (row_of rs t) ≡ true → (row_of rs t).name ≡ t) → is_open (cond b r (row_of rs t)) ≡ true → (cond b r (row_of rs t)).name ≡ t
    go true q k e = eqb-true r.name t q
    go false q k e = k e

pub open-there : (rs : List Row) (t : ℕ) → is_open (row_of rs t) ≡ true → any (named t) rs ≡ true
open-there rs t e = go (any (named t) rs) refl
  where
    go : (b : Bool) → any (named t) rs ≡ b → b ≡ true
    go true q = refl
    go false q = absurd (false≢true (rw (unnamed rs t q) at e))

-- the row that a row became, under the same name
module _ (t : ℕ) (q : Row) (same : q.name ≡ t) where
  pub become-same : (rs : List Row) → any (named t) rs ≡ true → row_of (become rs t q) t ≡ q
  unfolding any row_of become
  become-same [] e = absurd (false≢true e)
  become-same (r ∷ rs) e = go (named t r) refl (become-same rs) e
    where
      go : (b : Bool) → named t r ≡ b → (any (named t) rs ≡ true → row_of (become rs t q) t ≡ q) → (b || any (named t) rs) ≡ true
          → row_of (cond b (q ∷ rs) (r ∷ become rs t q)) t ≡ q
      go true p k e = rw (eq-eqb q.name t same)
      go false p k e = rw p (k e)

  pub become-other : (rs : List Row) (u : ℕ) → t ≢ u → row_of (become rs t q) u ≡ row_of rs u
  unfolding row_of become
  become-other [] u n = refl
  become-other (r ∷ rs) u n = go (named t r) refl (become-other rs u n)
    where
      go : (b : Bool) → named t r ≡ b → row_of (become rs t q) u ≡ row_of rs u → row_of (cond b (q ∷ rs) (r ∷ become rs t q)) u ≡ row_of (r ∷ rs) u
      go true p k = rw (ne_eqb q.name u (λ e. n (sym same ∙ e)), ne_eqb r.name u (λ e. n (sym (eqb-true r.name t p) ∙ e)))
      go false p k = rw k

  -- no name comes or goes
  pub become-names : (rs : List Row) → map (λ (r : Row). r.name) (become rs t q) ≡ map (λ (r : Row). r.name) rs
  unfolding become
  become-names [] = refl
  become-names (r ∷ rs) = go (named t r) refl (become-names rs)
    where
      go : (b : Bool) → named t r ≡ b → map (λ (s : Row). s.name) (become rs t q) ≡ map (λ (s : Row). s.name) rs
          → map (λ (s : Row). s.name) (cond b (q ∷ rs) (r ∷ become rs t q)) ≡ map (λ (s : Row). s.name) (r ∷ rs)
      go true p k = rw (eqb-true r.name t p, same)
      go false p k = rw k

-- no row comes or goes
pub become-length : (rs : List Row) (t : ℕ) (q : Row) → length (become rs t q) ≡ length rs
unfolding become
become-length [] t q = refl
become-length (r ∷ rs) t q = go (named t r) (become-length rs t q)
  where
    go : (b : Bool) → length (become rs t q) ≡ length rs → length (cond b (q ∷ rs) (r ∷ become rs t q)) ≡ suc (length rs)
    go true k = refl
    go false k = ap suc k

-- a count moves by the one row
pub become-count : (p : Row → Bool) (rs : List Row) (t : ℕ) (q : Row) → any (named t) rs ≡ true
    → count p (become rs t q) + bit (p (row_of rs t)) ≡ count p rs + bit (p q)
unfolding any row_of become count bit
become-count p [] t q e = absurd (false≢true e)
become-count p (r ∷ rs) t q e = go (named t r) (become-count p rs t q) e
  where
    plain : (a b : Bool) (n : ℕ) → cond a (suc n) n + bit b ≡ cond b (suc n) n + bit a
    plain true true n = omega arith
    plain true false n = omega arith
    plain false true n = omega arith
    plain false false n = omega arith

    past : (a : Bool) (m n : ℕ) → m + bit (p (row_of rs t)) ≡ n + bit (p q) → cond a (suc m) m + bit (p (row_of rs t)) ≡ cond a (suc n) n + bit (p q)
    past true m n k = omega arith
    past false m n k = k

    go : (b : Bool) → (any (named t) rs ≡ true → count p (become rs t q) + bit (p (row_of rs t)) ≡ count p rs + bit (p q)) → (b || any (named t) rs) ≡ true
        → count p (cond b (q ∷ rs) (r ∷ become rs t q)) + bit (p (cond b r (row_of rs t))) ≡ count p (r ∷ rs) + bit (p q)
    go true k e = plain (p q) (p r) (count p rs)
    go false k e = past (p r) (count p (become rs t q)) (count p rs) (k e)

-- what a record does to a row leaves its name and its start
pub changed-name : (line n : ℕ) (e : Record) (r : Row) → (changed line n e r).name ≡ r.name
unfolding changed
changed-name line n (Start t) r = refl
changed-name line n (Tune t b) r = refl
changed-name line n (Read t x w) r = go (is_recorded r x w)
  where
    go : (b : Bool) → (cond b (with_last r (suc n)) r).name ≡ r.name
    go true = refl
    go false = refl
changed-name line n (Write t x) r = refl
changed-name line n (Commit t) r = refl
changed-name line n (Abort t) r = refl

-- where no name is twice, each row is the one of its name
pub own_row : (rs : List Row) → Distinct (map (λ (r : Row). r.name) rs) → Every (λ (r : Row). row_of rs r.name ≡ r) rs
unfolding row_of
own_row [] d = none
own_row (r ∷ rs) (apart n d) = also {x = r} (rw (eq-eqb r.name r.name refl)) (every_both (λ s e k. rw (ne_eqb r.name s.name e) k) (others rs n) (own_row rs d))
  where
    others : (ss : List Row) → Every (λ (m : ℕ). m ≢ r.name) (map (λ (s : Row). s.name) ss) → Every (λ (s : Row). r.name ≢ s.name) ss
    others [] k = none
    others (s ∷ ss) (also k ks) = also (λ e. k (sym e)) (others ss ks)

-- what holds of the row of a name that is there holds of some row
pub any-row : (p : Row → Bool) (rs : List Row) (t : ℕ) → any (named t) rs ≡ true → p (row_of rs t) ≡ true → any p rs ≡ true
unfolding any row_of
any-row p [] t e h = absurd (false≢true e)
any-row p (r ∷ rs) t e h = go (named t r) (any-row p rs t) e h
  where
    go : (b : Bool) → (any (named t) rs ≡ true → p (row_of rs t) ≡ true → any p rs ≡ true) → (b || any (named t) rs) ≡ true → p (cond b r (row_of rs t)) ≡ true
        → (p r || any p rs) ≡ true
    go true k e h = rw h
    go false k e h = rw (k e h, or-true (p r))

pub named-names : (rs : List Row) (t : ℕ) → any (named t) rs ≡ any (λ (n : ℕ). eqb n t) (map (λ (r : Row). r.name) rs)
unfolding any
named-names [] t = refl
named-names (r ∷ rs) t = rw (named-names rs t)

pub become-named : (t : ℕ) (q : Row) → q.name ≡ t → (rs : List Row) (u : ℕ) → any (named u) (become rs t q) ≡ any (named u) rs
become-named t q same rs u = named-names (become rs t q) u ∙ ap (any (λ (n : ℕ). eqb n u)) (become-names t q same rs) ∙ sym (named-names rs u)

-- The comparison's reply is document 01's: 11 exactly if some ordinal is above the master's, and else the keys that are behind, their number
-- and the lowest.
use Prim.Native.Nat.{ℕ, zero, suc, ◌+◌, ◌/◌, ◌%◌, ◌^◌, ◌≤◌, ◌<◌}
use native.Mathlib.Decide.{ℕ_discrete}
use native.Mathlib.Omega.{arith}
use mathlib.Core.Path.{◌≡◌, refl, sym, ◌∙◌, ap, subst}
use mathlib.Core.Logic.{◌↔◌, ◌≢◌, ⊎_elim}
use mathlib.Core.Bool.{Bool, true, false, cond, ◌||◌, true≢false}
use mathlib.Core.List.{List, [], ◌∷◌}
use borrow.Author.Tests.{ltb-true, lt-ltb}
use lib.Count.{ones, count_trailing_zeros}
use lib.ListN.{length}
use Rattle.lists.specs.Members.{In, here, below, Distinct, empty, apart}
use Rattle.lists.proofs.Members.{in_nothing, in_one, in_append, in_every}
use Rattle.units.specs.declared.Ordinal.{Ordinal}
use Rattle.model.specs.Log.{Entry}
use Rattle.comparison.specs.Comparison.{CompareReply, refused, newest_ordinal, held_ordinal, is_ahead, is_behind, some_key, word_of, from_word, compared, how_many, lowest}
use Rattle.comparison.specs.Named.{SomeAhead, Lags, Named, HowMany, Lowest, first, nowhere, Tells, Compares, ahead, tells}
use Rattle.comparison.proofs.Words.{digit, some_hit, word_digit, word_ones, word_lowest, lowest_is}

-- a key below n of which the test holds
record Hit (p : ℕ → Bool) (n : ℕ) : Type 0 where
  key : ℕ
  under : key < n
  holds : p key ≡ true

some_key_hit : (p : ℕ → Bool) (n : ℕ) → some_key p n ≡ true → Hit p n
unfolding some_key
some_key_hit p zero h = absurd (true≢false (sym h))
some_key_hit p (suc n) h = go (some_key p n) refl (p n) refl h (some_key_hit p n)
  where
    go : (t : Bool) → some_key p n ≡ t → (u : Bool) → p n ≡ u → (t || u) ≡ true → (some_key p n ≡ true → Hit p n) → Hit p (suc n)
    go true a u b e r = let k : Hit p n = r a in record { key = k.key; under = omega (arith, k.under); holds = k.holds }
    go false a true b e r = record { key = n; under = omega arith; holds = b }
    go false a false b e r = absurd (true≢false (sym e))

-- the keys below n of which the test holds
unfoldable keys_below : (ℕ → Bool) → ℕ → List ℕ
keys_below p zero = []
keys_below p (suc n) = cond (p n) (n ∷ keys_below p n) (keys_below p n)

module _ (p : ℕ → Bool) where
  keys_in : (n k : ℕ) → In k (keys_below p n) → (k < n) × (p k ≡ true)
  unfolding keys_below
  keys_in zero k i = absurd (in_nothing i)
  keys_in (suc n) k i = go (p n) refl i (keys_in n k)
    where
      go : (t : Bool) → p n ≡ t → In k (cond t (n ∷ keys_below p n) (keys_below p n)) → (In k (keys_below p n) → (k < n) × (p k ≡ true)) → (k < suc n) × (p k ≡ true)
      go true e j r =
          ⊎_elim (λ i. let q : k ≡ n = in_one i in (omega arith, ap p q ∙ e)) (λ i. let b = r i in (omega (arith, b.0), b.1)) (in_append (n ∷ []) (keys_below p n) j)
      go false e j r = let b = r j in (omega (arith, b.0), b.1)

  in_keys : (n k : ℕ) → k < n → p k ≡ true → In k (keys_below p n)
  unfolding keys_below
  in_keys zero k l h = absurd (omega arith)
  in_keys (suc n) k l h = go (ℕ_discrete k n) (p n) refl (in_keys n k)
    where
      go : Dec (k ≡ n) → (t : Bool) → p n ≡ t → (k < n → p k ≡ true → In k (keys_below p n)) → In k (cond t (n ∷ keys_below p n) (keys_below p n))
      go (yes q) true e r = subst (λ (j : ℕ). In j (n ∷ keys_below p n)) (sym q) here
      go (yes q) false e r = absurd (true≢false (sym h ∙ ap p q ∙ e))
      go (no q) true e r = below (r (omega arith) h)
      go (no q) false e r = r (omega arith) h

  keys-once : (n : ℕ) → Distinct (keys_below p n)
  unfolding keys_below
  keys-once zero = empty
  keys-once (suc n) = go (p n) (keys-once n)
    where
      go : (t : Bool) → Distinct (keys_below p n) → Distinct (cond t (n ∷ keys_below p n) (keys_below p n))
      go true d = apart (in_every (λ (k : ℕ). k ≢ n) (keys_below p n) (λ k i q. omega (arith, (keys_in n k i).0))) d
      go false d = d

  keys-many : (n : ℕ) → length (keys_below p n) ≡ how_many p n
  unfolding keys_below how_many
  keys-many zero = refl
  keys-many (suc n) = go (p n) (keys-many n)
    where
      go : (t : Bool) → length (keys_below p n) ≡ how_many p n → length (cond t (n ∷ keys_below p n) (keys_below p n)) ≡ how_many p n + cond t 1 0
      go true e = omega arith
      go false e = omega arith

-- a test that decides P
module _ (p : ℕ → Bool) (P : ℕ → Type 0) (decides : (k : ℕ) → (p k ≡ true) ↔ P k) where
  fails : (k : ℕ) → p k ≡ false → ¬ P k
  fails k h x = true≢false (sym ((decides k).1 x) ∙ h)

  word_names : (k : ℕ) → k ≤ 63 → Named (word_of p 64) k ↔ P k
  word_names k h = (λ n. go n (p k) refl, λ x. d ∙ ap digit ((decides k).1 x))
    where
      d : word_of p 64 / 2 ^ k % 2 ≡ digit (p k)
      d = word_digit p 64 k (omega arith)

      go : Named (word_of p 64) k → (t : Bool) → p k ≡ t → P k
      go n true e = (decides k).0 e
      go n false e = let z : ◌≡◌ {A = ℕ} 1 0 = sym n ∙ d ∙ ap digit e in absurd (omega arith)

  many-named : HowMany P (how_many p 64)
  many-named =
      record {
        keys = keys_below p 64;
        once = keys-once p 64;
        these = λ k. (λ i. let b = keys_in p 64 k i in (omega (arith, b.0), (decides k).0 b.1), λ h. in_keys p 64 k (omega (arith, h.0)) ((decides k).1 h.1));
        many = keys-many p 64;
      }

  lowest-named : Lowest P (lowest p 64)
  lowest-named =
      ⊎_elim
      (λ w. first (omega (arith, w.0)) ((decides (lowest p 64)).0 w.1) (λ j h. fails j (w.2 j h)))
      (λ w. subst (Lowest P) (sym w.0) (nowhere (λ j h. fails j (w.1 j (omega arith)))))
      (lowest_is p 64)

  pub word_tells : Tells P (word_of p 64) (how_many p 64) (lowest p 64)
  word_tells = record { keys = word_names; many = many-named; least = lowest-named }

  -- "Ones give the number of keys behind; trailing zeros give the lowest, 64 for none"
  digits-tell : Tells P (word_of p 64) (ones (word_of p 64)) (count_trailing_zeros 64 (word_of p 64))
  digits-tell = rw (word_ones p 64, word_lowest p 64) word_tells

module _ (log : List Entry) (held : List Ordinal) where
  some-ahead : some_key (is_ahead log held) 64 ≡ true → SomeAhead log held
  some-ahead h =
      let k : Hit (is_ahead log held) 64 = some_key_hit (is_ahead log held) 64 h in
      record { key = k.key; within = omega (arith, k.under); above = ltb-true (newest_ordinal log k.key) (held_ordinal held k.key) k.holds }

  ahead-some : SomeAhead log held → some_key (is_ahead log held) 64 ≡ true
  ahead-some a = some_hit (is_ahead log held) a.key 64 (omega (arith, a.within)) (lt-ltb (newest_ordinal log a.key) (held_ordinal held a.key) a.above)

  -- every reply says what document 01 says it does
  pub compares : Compares log held (compared log held)
  unfolding compared
  compares = go (some_key (is_ahead log held) 64) refl
    where
      decides : (k : ℕ) → (is_behind log held k ≡ true) ↔ Lags log held k
      decides k = (ltb-true (held_ordinal held k) (newest_ordinal log k), lt-ltb (held_ordinal held k) (newest_ordinal log k))

      go : (t : Bool) → some_key (is_ahead log held) 64 ≡ t → Compares log held (cond t (refused 11) (from_word (word_of (is_behind log held) 64)))
      go true h = ahead (some-ahead h)
      go false h =
          tells (word_of (is_behind log held) 64) (ones (word_of (is_behind log held) 64)) (count_trailing_zeros 64 (word_of (is_behind log held) 64)) (λ a. true≢false (sym (ahead-some a) ∙ h))
          (digits-tell (is_behind log held) (Lags log held) decides)

  -- document 01's row 11, "Exactly when .. some ordinal is above the master's"
  pub eleven_exactly : (compared log held ≡ refused 11) ↔ SomeAhead log held
  eleven_exactly = (λ e. to compares e, λ a. from compares a)
    where
      to : {r : CompareReply} → Compares log held r → r ≡ refused 11 → SomeAhead log held
      to (ahead a) e = a
      to (tells w n l h t) e = let z : ◌≡◌ {A = ℕ} 0 1 = cc in absurd (omega arith)

      from : {r : CompareReply} → Compares log held r → SomeAhead log held → r ≡ refused 11
      from (ahead b) a = refl
      from (tells w n l h t) a = absurd (h a)

  -- and no other number is given
  pub eleven_only : (n : ℕ) → compared log held ≡ refused n → n ≡ 11
  eleven_only n e = go compares e
    where
      go : {r : CompareReply} → Compares log held r → r ≡ refused n → n ≡ 11
      go (ahead a) e = cc
      go (tells w m l h t) e = let z : ◌≡◌ {A = ℕ} 0 1 = cc in absurd (omega arith)

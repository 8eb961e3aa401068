-- A word as a set of keys: its digits name exactly the keys of which the test holds, its ones are their number, and the zeros below its
-- lowest one lead to the lowest of them.
use Prim.Native.Nat.{ℕ, zero, suc, ◌+◌, ◌-◌, ◌*◌, ◌/◌, ◌%◌, ◌^◌, ◌<◌}
use native.Mathlib.Nat.{pow-suc, add-zero, zero-add, one-mul, zero-mul, mod-eq_of_lt, div-one, add-mul-div_right, add-mul-mod_self_right}
use native.Mathlib.Decide.{ℕ_discrete}
use native.Mathlib.Numerals.{add-one}
use native.Mathlib.Omega.{arith}
use mathlib.Core.Path.{◌≡◌, refl, sym, ◌∙◌, ap}
use mathlib.Core.Bool.{Bool, true, false, cond, ◌||◌}
use mathlib.Core.Logic.{◌⊎◌, inl, inr, ⊎_elim}
use lib.Count.{ones, ones_cat, count_trailing_zeros, under}
use lib.Pow.{pow_pos, pow-lt, pow-add, high, shr-shr}
use Rattle.std.specs.List.{list_any, range_with_len}
use Rattle.comparison.specs.Comparison.{some_key, word_of, how_many, lowest}
use Rattle.lists.proofs.Std.{any_more}

-- the digit of a test
abbrev pub digit : Bool → ℕ
digit true = 1
digit false = 0

pub some-any : (p : ℕ → Bool) (n : ℕ) → list_any p (range_with_len 0 n) ≡ some_key p n
unfolding some_key
some-any p zero = refl
some-any p (suc n) = rw (any_more p 0 n, some-any p n, zero-add)

-- a digit more than k places up is even as seen from k
far : (k j : ℕ) (t : Bool) → cond t (2 ^ (suc j + k)) 0 ≡ digit t * 2 ^ j * 2 * 2 ^ k
far k j true = pow-add 2 (suc j) k ∙ rw (pow-suc, one-mul)
far k j false = sym (ap (λ (x : ℕ). x * 2 * 2 ^ k) (zero-mul (2 ^ j)) ∙ ap (λ (x : ℕ). x * 2 ^ k) (zero-mul 2) ∙ zero-mul (2 ^ k))

unmoved : (r k j : ℕ) (t : Bool) → (r + cond t (2 ^ (suc j + k)) 0) / 2 ^ k % 2 ≡ r / 2 ^ k % 2
unmoved r k j t = rw (far k j t, add-mul-div_right r (digit t * 2 ^ j * 2) (pow_pos k), add-mul-mod_self_right)

module _ (p : ℕ → Bool) where
  pub word_lt : (n : ℕ) → word_of p n < 2 ^ n
  unfolding word_of
  word_lt zero = omega arith
  word_lt (suc n) = go (p n) (word_lt n)
    where
      go : (t : Bool) → word_of p n < 2 ^ n → word_of p n + cond t (2 ^ n) 0 < 2 ^ suc n
      go true h = rw pow-suc (omega arith)
      go false h = rw pow-suc (omega (arith, pow_pos n))

  -- the word after a key below 64: the key is in it, or not
  pub word_with : (n : ℕ) {w : ℕ} → w ≡ word_of p n → n < 64 → p n ≡ true → w + 1 * 2 ^ n % 2 ^ 64 ≡ word_of p (n + 1)
  unfolding word_of
  word_with n e h t =
      let bit : 1 * 2 ^ n % 2 ^ 64 ≡ 2 ^ n = rw one-mul (mod-eq_of_lt (pow-lt {j = 64} h)) in
      rw (add-one, e, t, bit)

  pub word_without : (n : ℕ) {w : ℕ} → w ≡ word_of p n → p n ≡ false → w ≡ word_of p (n + 1)
  unfolding word_of
  word_without n e t = rw (add-one, e, t, add-zero)

  -- a word with a digit above it
  above : (n : ℕ) (t : Bool) → word_of p n + cond t (2 ^ n) 0 ≡ digit t * 2 ^ n + word_of p n
  above n true = rw one-mul (omega arith)
  above n false = rw zero-mul (omega arith)

  pub some_hit : (n m : ℕ) → n < m → p n ≡ true → some_key p m ≡ true
  unfolding some_key
  some_hit n zero h e = absurd (omega arith)
  some_hit n (suc m) h e = go (ℕ_discrete n m) (some_hit n m)
    where
      or-true : (b : Bool) → (b || true) ≡ true
      or-true true = refl
      or-true false = refl

      go : Dec (n ≡ m) → (n < m → p n ≡ true → some_key p m ≡ true) → (some_key p m || p m) ≡ true
      go (yes q) r = rw (← q, e) (or-true (some_key p n))
      go (no q) r = rw (r (omega arith) e)

  pub no_key : (n : ℕ) → ((j : ℕ) → j < n → p j ≡ false) → some_key p n ≡ false
  unfolding some_key
  no_key zero f = refl
  no_key (suc n) f = rw (no_key n (λ j h. f j (omega arith)), f n (omega arith))

  -- "a one for each key that is behind": the digit of a key below n says whether p holds of it
  pub word_digit : (n k : ℕ) → k < n → word_of p n / 2 ^ k % 2 ≡ digit (p k)
  unfolding word_of
  word_digit zero k h = absurd (omega arith)
  word_digit (suc n) k h = go (ℕ_discrete k n) (word_digit n k)
    where
      small : (t : Bool) → digit t % 2 ≡ digit t
      small true = refl
      small false = refl

      go : Dec (k ≡ n) → (k < n → word_of p n / 2 ^ k % 2 ≡ digit (p k)) → (word_of p n + cond (p n) (2 ^ n) 0) / 2 ^ k % 2 ≡ digit (p k)
      go (yes q) r = rw (q, above n (p n), high (digit (p n)) n (word_lt n)) (small (p n))
      go (no q) r =
          let e : n ≡ suc (n - k - 1) + k = omega arith in
          ap (λ (x : ℕ). (word_of p n + cond (p n) (2 ^ x) 0) / 2 ^ k % 2) e ∙ unmoved (word_of p n) k (n - k - 1) (p n) ∙ r (omega arith)

  -- "Ones give the number of keys behind"
  pub word_ones : (n : ℕ) → ones (word_of p n) ≡ how_many p n
  unfolding word_of how_many ones
  word_ones zero = refl
  word_ones (suc n) = rw (above n (p n), ones_cat n (digit (p n)) (word_of p n) (word_lt n), word_ones n) (one (p n))
    where
      one : (t : Bool) → ones (digit t) + how_many p n ≡ how_many p n + cond t 1 0
      one true = omega arith
      one false = omega arith

-- the zeros below the lowest digit that is set
pub zeros_at : (d n k : ℕ) → k < d → n / 2 ^ k % 2 ≡ 1 → ((j : ℕ) → j < k → n / 2 ^ j % 2 ≡ 0) → count_trailing_zeros d n ≡ k
unfolding count_trailing_zeros
zeros_at zero n k h e f = absurd (omega arith)
zeros_at (suc d) n zero h e f = ap (λ (x : ℕ). under x (count_trailing_zeros d (n / 2))) (ap (λ (x : ℕ). x % 2) (sym (div-one n)) ∙ e)
zeros_at (suc d) n (suc k) h e f =
    ap (λ (x : ℕ). under x (count_trailing_zeros d (n / 2))) (ap (λ (x : ℕ). x % 2) (sym (div-one n)) ∙ f 0 (omega arith))
    ∙ ap suc (zeros_at d (n / 2) k (omega arith) (ap (λ (x : ℕ). x % 2) (half k) ∙ e) (λ j l. ap (λ (x : ℕ). x % 2) (half j) ∙ f (suc j) (omega arith)))
  where
    half : (j : ℕ) → n / 2 / 2 ^ j ≡ n / 2 ^ suc j
    half j = shr-shr n 1 j ∙ ap (λ (x : ℕ). n / 2 ^ x) (omega arith)

pub zeros_none : (d n : ℕ) → ((j : ℕ) → j < d → n / 2 ^ j % 2 ≡ 0) → count_trailing_zeros d n ≡ d
unfolding count_trailing_zeros
zeros_none zero n f = refl
zeros_none (suc d) n f =
    ap (λ (x : ℕ). under x (count_trailing_zeros d (n / 2))) (ap (λ (x : ℕ). x % 2) (sym (div-one n)) ∙ f 0 (omega arith))
    ∙ ap suc (zeros_none d (n / 2) (λ j l. ap (λ (x : ℕ). x % 2) (shr-shr n 1 j ∙ ap (λ (x : ℕ). n / 2 ^ x) (omega arith)) ∙ f (suc j) (omega arith)))

module _ (p : ℕ → Bool) where
  -- the lowest key below n of which p holds: it is below n, p holds of it and of none before it; or there is none
  pub lowest_is : (n : ℕ) → ((lowest p n < n) × (p (lowest p n) ≡ true) × ((j : ℕ) → j < lowest p n → p j ≡ false)) ⊎ ((lowest p n ≡ n) × ((j : ℕ) → j < n → p j ≡ false))
  unfolding lowest some_key
  lowest_is zero = inr (refl, λ j h. absurd (omega arith))
  lowest_is (suc n) = ⊎_elim seen (λ w. unseen w (p n) refl) (lowest_is n)
    where
      Lowest : ℕ → Type 0
      Lowest x = ((x < suc n) × (p x ≡ true) × ((j : ℕ) → j < x → p j ≡ false)) ⊎ ((x ≡ suc n) × ((j : ℕ) → j < suc n → p j ≡ false))

      seen : (lowest p n < n) × (p (lowest p n) ≡ true) × ((j : ℕ) → j < lowest p n → p j ≡ false) → Lowest (cond (some_key p n) (lowest p n) (cond (p n) n (suc n)))
      seen w = rw (some_hit p (lowest p n) n w.0 w.1) (inl (omega (arith, w.0), w.1, w.2))

      unseen : (lowest p n ≡ n) × ((j : ℕ) → j < n → p j ≡ false) → (t : Bool) → p n ≡ t → Lowest (cond (some_key p n) (lowest p n) (cond (p n) n (suc n)))
      unseen w true e = rw (no_key p n w.1, e) (inl (omega arith, e, w.1))
      unseen w false e = rw (no_key p n w.1, e) (inr (refl, λ j h. until j h (ℕ_discrete j n)))
        where
          until : (j : ℕ) → j < suc n → Dec (j ≡ n) → p j ≡ false
          until j h (yes q) = rw q e
          until j h (no q) = w.1 j (omega arith)

  -- "trailing zeros give the lowest, 64 for none"
  pub word_lowest : (n : ℕ) → count_trailing_zeros n (word_of p n) ≡ lowest p n
  word_lowest n = ⊎_elim
      (λ w. zeros_at n (word_of p n) (lowest p n) w.0 (word_digit p n (lowest p n) w.0 ∙ ap digit w.1) (λ j h. word_digit p n j (omega (arith, w.0)) ∙ ap digit (w.2 j h)))
      (λ w. zeros_none n (word_of p n) (λ j h. word_digit p n j h ∙ ap digit (w.1 j h)) ∙ sym w.0)
      (lowest_is n)

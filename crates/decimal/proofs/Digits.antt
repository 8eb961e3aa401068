-- The text of a number: its digits one by one, its length, that a value has one text and a text one value.
use Prim.Native.Nat.{ℕ, zero, suc, ◌+◌, ◌-◌, ◌*◌, ◌/◌, ◌%◌, ◌^◌, ◌≤◌, ◌<◌}
use native.Mathlib.Nat.{pow-suc}
use native.Mathlib.Decide.{dec_lt}
use native.Mathlib.Omega.{arith}
use mathlib.Core.Path.{◌≡◌, refl, sym, ap, ◌∙◌, subst}
use mathlib.Core.Bool.{Bool, true, false, ◌&&◌}
use mathlib.Core.List.{List, [], ◌∷◌, ◌++◌, append_assoc, append-nil}
use mathlib.Core.Logic.{◌⊎◌, inl, inr}
use borrow.Author.Tests.{lt-ltb, le-ltb, le-leb, leb-true}
use lib.Dec.{leb}
use lib.IntN.{ℤ, pos, negsuc, nat_abs}
use lib.Signed.{mag, lt_z}
use lib.ListN.{length, get_or, set, drop, drop_of_length-le, length-append, get_or-append}
use Rattle.std.proofs.lemmas.List.{drop-set}
use Rattle.lists.specs.Lists.{Every, none, also}
use Rattle.lists.proofs.Every.{every_append, every_at}
use Rattle.decimal.specs.Text.{is_digit, spelt, decimal, plain}

-- ---- the digits of n: one of them below ten, else those of n / 10 and one more

module _ (k n : ℕ) where
  pub spelt_small : n < 10 → spelt (suc k) n ≡ (48 + n) ∷ []
  unfolding spelt
  spelt_small h = rw (lt-ltb n 10 h)

  pub spelt-step : 10 ≤ n → spelt (suc k) n ≡ spelt k (n / 10) ++ ((48 + n % 10) ∷ [])
  unfolding spelt
  spelt-step h = rw (le-ltb n 10 h)

-- more places than n needs change nothing
spelt_enough : (j k n : ℕ) → n < j → n < k → spelt j n ≡ spelt k n
spelt_enough zero k n h g = absurd (omega arith)
spelt_enough (suc j) zero n h g = absurd (omega arith)
spelt_enough (suc j) (suc k) n h g = go (dec_lt n 10) (λ l. spelt_enough j k (n / 10) (omega arith) (omega arith))
  where
    go : Dec (n < 10) → (10 ≤ n → spelt j (n / 10) ≡ spelt k (n / 10)) → spelt (suc j) n ≡ spelt (suc k) n
    go (yes l) e = rw (spelt_small j n l, spelt_small k n l)
    go (no l) e = rw (spelt-step j n (omega arith), spelt-step k n (omega arith), e (omega arith))

pub decimal_small : (n : ℕ) → n < 10 → decimal n ≡ (48 + n) ∷ []
unfolding decimal
decimal_small n h = spelt_small n n h

pub decimal_step : (n : ℕ) → 10 ≤ n → decimal n ≡ decimal (n / 10) ++ ((48 + n % 10) ∷ [])
unfolding decimal
decimal_step n h = rw (spelt-step n n h, spelt_enough n (suc (n / 10)) (n / 10) (omega arith) (omega arith))

pub decimal_snoc : (m d : ℕ) → 1 ≤ m → d < 10 → decimal (m * 10 + d) ≡ decimal m ++ ((48 + d) ∷ [])
decimal_snoc m d h g =
    let q : (m * 10 + d) / 10 ≡ m = omega arith in
    let r : (m * 10 + d) % 10 ≡ d = omega arith in
    decimal_step (m * 10 + d) (omega arith) ∙ rw (q, r)

-- what holds of one digit, and of a further digit behind those of a number above zero, holds of every number and its digits
module _ (P : ℕ → List ℕ → Type 0)
    (one : (n : ℕ) → n < 10 → P n ((48 + n) ∷ []))
    (further : (m d : ℕ) → 1 ≤ m → d < 10 → P m (decimal m) → P (m * 10 + d) (decimal m ++ ((48 + d) ∷ []))) where
  below : (k n : ℕ) → n < k → P n (decimal n)
  below zero n h = absurd (omega arith)
  below (suc k) n h = go (dec_lt n 10) (λ l. below k (n / 10) (omega arith))
    where
      go : Dec (n < 10) → (10 ≤ n → P (n / 10) (decimal (n / 10))) → P n (decimal n)
      go (yes l) p = rw (decimal_small n l) (one n l)
      go (no l) p =
          let e : n / 10 * 10 + n % 10 ≡ n = omega arith in
          rw (decimal_step n (omega arith)) (subst (λ (k : ℕ). P k (decimal (n / 10) ++ ((48 + n % 10) ∷ []))) e (further (n / 10) (n % 10) (omega arith) (omega arith) (p (omega arith))))

  pub decimal_ind : (n : ℕ) → P n (decimal n)
  decimal_ind n = below (suc n) n (omega arith)

-- ---- a text has one value: what its digits are worth, those before them being worth v

abbrev pub worth : ℕ → List ℕ → ℕ
worth v [] = v
worth v (b ∷ s) = worth (v * 10 + (b - 48)) s

pub worth-append : (v : ℕ) (s t : List ℕ) → worth v (s ++ t) ≡ worth (worth v s) t
worth-append v [] t = refl
worth-append v (b ∷ s) t = worth-append (v * 10 + (b - 48)) s t

-- further digits make no number smaller
pub worth_le : (v : ℕ) (s : List ℕ) → v ≤ worth v s
worth_le v [] = omega arith
worth_le v (b ∷ s) = omega (arith, worth_le (v * 10 + (b - 48)) s)

pub worth-decimal : (n : ℕ) → worth 0 (decimal n) ≡ n
worth-decimal =
    decimal_ind (λ n t. worth 0 t ≡ n) (λ n h. omega arith) (λ m d h g e. worth-append 0 (decimal m) ((48 + d) ∷ []) ∙ rw e (omega arith))

pub decimal_inj : (m n : ℕ) → decimal m ≡ decimal n → m ≡ n
decimal_inj m n e = sym (worth-decimal m) ∙ ap (worth 0) e ∙ worth-decimal n

-- ---- the form: digits only, at least one, no leading zero

pub digit-above : (b : ℕ) → is_digit b ≡ true → 48 ≤ b
unfolding is_digit
digit-above b e = go (leb 48 b) refl e
  where
    go : (t : Bool) → leb 48 b ≡ t → (t && leb b 57) ≡ true → 48 ≤ b
    go true h e = leb-true 48 b h
    go false h e = let z : ◌≡◌ {A = ℕ} 0 1 = cc in absurd (omega arith)

pub digit-below : (b : ℕ) → is_digit b ≡ true → b ≤ 57
unfolding is_digit
digit-below b e = go (leb 48 b) refl e
  where
    go : (t : Bool) → leb 48 b ≡ t → (t && leb b 57) ≡ true → b ≤ 57
    go true h e = leb-true b 57 e
    go false h e = let z : ◌≡◌ {A = ℕ} 0 1 = cc in absurd (omega arith)

pub digit_is : (d : ℕ) → d < 10 → is_digit (48 + d) ≡ true
unfolding is_digit
digit_is d h = rw (le-leb 48 (48 + d) (omega arith), le-leb (48 + d) 57 (omega arith))

abbrev pub Digits : List ℕ → Type 0
Digits s = Every (λ (b : ℕ). is_digit b ≡ true) s

pub decimal-digits : (n : ℕ) → Digits (decimal n)
decimal-digits =
    decimal_ind (λ n t. Digits t) (λ n h. also (digit_is n h) none) (λ m d h g p. every_append p (also (digit_is d g) none))

pub decimal-some : (n : ℕ) → 1 ≤ length (decimal n)
decimal-some =
    decimal_ind (λ n t. 1 ≤ length t) (λ n h. omega arith) (λ m d h g l. rw (length-append (decimal m) ((48 + d) ∷ [])) (omega arith))

-- the first digit of a number above zero is above `0`
pub decimal-first : (n : ℕ) → 1 ≤ n → 48 < get_or (decimal n) 0 0
decimal-first =
    decimal_ind (λ n t. 1 ≤ n → 48 < get_or t 0 0) (λ n h l. omega arith)
    (λ m d h g p l. rw (get_or-append (decimal m) ((48 + d) ∷ []) 0 0 (decimal-some m)) (p h))

-- ---- the length

pub length-step : (n : ℕ) → 10 ≤ n → length (decimal n) ≡ length (decimal (n / 10)) + 1
length-step n h = ap length (decimal_step n h) ∙ length-append (decimal (n / 10)) ((48 + n % 10) ∷ [])

pub decimal-length : (n k : ℕ) → 1 ≤ k → n < 10 ^ k → length (decimal n) ≤ k
decimal-length =
    decimal_ind (λ n t. (k : ℕ) → 1 ≤ k → n < 10 ^ k → length t ≤ k) (λ n h k l g. l) (λ m d h g p k l b. rw (length-append (decimal m) ((48 + d) ∷ [])) (less m d h p k l b))
  where
    less : (m d : ℕ) → 1 ≤ m → ((k : ℕ) → 1 ≤ k → m < 10 ^ k → length (decimal m) ≤ k) → (k : ℕ) → 1 ≤ k → m * 10 + d < 10 ^ k → length (decimal m) + 1 ≤ k
    less m d h p zero l b = absurd (omega arith)
    less m d h p (suc zero) l b = absurd (omega arith)
    less m d h p (suc (suc k)) l b = omega (arith, p (suc k) (omega arith) (omega (arith, pow-suc 10 (suc k))))

pub decimal_head : (n : ℕ) → 48 ≤ get_or (decimal n) 0 0
decimal_head =
    decimal_ind (λ n t. 48 ≤ get_or t 0 0) (λ n h. omega arith)
    (λ m d h g p. rw (get_or-append (decimal m) ((48 + d) ∷ []) 0 0 (decimal-some m)) p)

-- a number from 10 ^ k on has more than k digits
pub decimal-longer : (n k : ℕ) → 10 ^ k ≤ n → k < length (decimal n)
decimal-longer =
    decimal_ind (λ n t. (k : ℕ) → 10 ^ k ≤ n → k < length t) one (λ m d h g p k l. rw (length-append (decimal m) ((48 + d) ∷ [])) (more m d g p k l))
  where
    one : (n : ℕ) → n < 10 → (k : ℕ) → 10 ^ k ≤ n → k < 1
    one n h zero l = omega arith
    one n h (suc k) l = absurd (omega (arith, pow-suc 10 k, pow-some k))
      where
        pow-some : (k : ℕ) → 1 ≤ 10 ^ k
        pow-some zero = omega arith
        pow-some (suc k) = omega (arith, pow-suc 10 k, pow-some k)

    more : (m d : ℕ) → d < 10 → ((k : ℕ) → 10 ^ k ≤ m → k < length (decimal m)) → (k : ℕ) → 10 ^ k ≤ m * 10 + d → k < length (decimal m) + 1
    more m d g p zero l = omega arith
    more m d g p (suc k) l = omega (arith, p k (omega (arith, pow-suc 10 k)))

-- the places of its digits are enough for n
pub spelt_length : (k n : ℕ) → length (decimal n) ≤ k → spelt k n ≡ decimal n
spelt_length zero n h = absurd (omega (arith, decimal-some n))
spelt_length (suc k) n h = go (dec_lt n 10) (λ l. spelt_length k (n / 10) (omega (arith, length-step n l)))
  where
    go : Dec (n < 10) → (10 ≤ n → spelt k (n / 10) ≡ decimal (n / 10)) → spelt (suc k) n ≡ decimal n
    go (yes l) e = spelt_small k n l ∙ sym (decimal_small n l)
    go (no l) e = rw (spelt-step k n (omega arith), e (omega arith), decimal_step n (omega arith))

-- the digits from the back: those of n fill l, and each that is stored is the last of what is left
pub spelt_whole : (l : List ℕ) (n : ℕ) → length l ≡ length (decimal n) → (length (spelt (length l) n) ≡ length l) × (spelt (length l) n ++ drop (length l) l ≡ decimal n)
spelt_whole l n h =
    let e : spelt (length l) n ≡ decimal n = spelt_length (length l) n (omega arith) in
    (ap length e ∙ sym h, ap (λ (t : List ℕ). t ++ drop (length l) l) e ∙ ap (λ (t : List ℕ). decimal n ++ t) (drop_of_length-le l (omega arith)) ∙ append-nil (decimal n))

no_digit : (i n : ℕ) → i ≡ 0 → spelt i n ≡ []
unfolding spelt
no_digit zero n e = refl
no_digit (suc i) n e = absurd (omega arith)

last_digit : (i n : ℕ) → length (spelt (suc i) n) ≡ suc i → (spelt i (n / 10) ++ ((48 + n % 10) ∷ []) ≡ spelt (suc i) n) × (length (spelt i (n / 10)) ≡ i)
last_digit i n h = go (dec_lt n 10)
  where
    go : Dec (n < 10) → (spelt i (n / 10) ++ ((48 + n % 10) ∷ []) ≡ spelt (suc i) n) × (length (spelt i (n / 10)) ≡ i)
    go (yes l) =
        let one : spelt (suc i) n ≡ (48 + n) ∷ [] = spelt_small i n l in
        let z : i ≡ 0 = omega (arith, ap length one) in
        let m : n % 10 ≡ n = omega arith in
        (rw (no_digit i (n / 10) z, m) (sym one), rw (no_digit i (n / 10) z) (sym z))
    go (no l) =
        let e : spelt (suc i) n ≡ spelt i (n / 10) ++ ((48 + n % 10) ∷ []) = spelt-step i n (omega arith) in
        (sym e, omega (arith, ap length e, length-append (spelt i (n / 10)) ((48 + n % 10) ∷ [])))

pub spelt_back : (l : List ℕ) (i n : ℕ) (t : List ℕ) → 0 < i → i ≤ length l → (length (spelt i n) ≡ i) × (spelt i n ++ drop i l ≡ t)
    → (length (spelt (i - 1) (n / 10)) ≡ i - 1) × (spelt (i - 1) (n / 10) ++ drop (i - 1) (set l (i - 1) (48 + n % 10)) ≡ t)
spelt_back l i n t some within v =
    let e : i ≡ suc (i - 1) = omega arith in
    let d : ℕ = 48 + n % 10 in
    let a : List ℕ = spelt (i - 1) (n / 10) in
    let p : (spelt (i - 1) (n / 10) ++ ((48 + n % 10) ∷ []) ≡ spelt (suc (i - 1)) n) × (length (spelt (i - 1) (n / 10)) ≡ i - 1) = last_digit (i - 1) n (ap (λ (k : ℕ). length (spelt k n)) (sym e) ∙ v.0 ∙ e) in (
      p.1,
      ap (λ (x : List ℕ). a ++ x) (drop-set l (i - 1) d (omega arith) ∙ ap (λ (k : ℕ). d ∷ drop k l) (omega arith))
          ∙ sym (append_assoc a (d ∷ []) (drop i l))
          ∙ ap (λ (x : List ℕ). x ++ drop i l) (p.0 ∙ ap (λ (k : ℕ). spelt k n) (sym e))
          ∙ v.1,
    )

-- the sizes in use: 32 bits, 64 bits
pub decimal_32 : (n : ℕ) → n < 4294967296 → length (decimal n) ≤ 10
decimal_32 n h = decimal-length n 10 (omega arith) (omega arith)

pub decimal_64 : (n : ℕ) → n < 18446744073709551616 → length (decimal n) ≤ 20
decimal_64 n h = decimal-length n 20 (omega arith) (omega arith)

-- a signed value takes one byte more, for its minus
pub plain-length : (z : ℤ) (k : ℕ) → 1 ≤ k → nat_abs z < 10 ^ k → length (plain z) ≤ suc k
plain-length (pos n) k h l = omega (arith, decimal-length n k h l)
plain-length (negsuc n) k h l = omega (arith, decimal-length (suc n) k h l)

pub plain_32 : (z : ℤ) → mag z < 2147483648 → length (plain z) ≤ 11
plain_32 (pos n) h = plain-length (pos n) 10 (omega arith) (omega arith)
plain_32 (negsuc n) h = plain-length (negsuc n) 10 (omega arith) (omega arith)

-- ---- the form of each byte

-- a leading `0` is the whole text of 0
pub decimal-zero : (n : ℕ) → get_or (decimal n) 0 0 ≡ 48 → n ≡ 0
decimal-zero zero e = refl
decimal-zero (suc n) e = absurd (omega (arith, decimal-first (suc n) (omega arith)))

-- Each byte is a digit, but for a minus in front of a value below zero. So there is no plus.
pub plain_byte : (z : ℤ) (i : ℕ) → i < length (plain z)
    → (is_digit (get_or (plain z) i 0) ≡ true) ⊎ ((i ≡ 0) × ((get_or (plain z) i 0 ≡ 45) × lt_z z (pos 0) ≡ true))
plain_byte (pos n) i h = inl (every_at 0 (decimal-digits n) i h)
plain_byte (negsuc n) zero h = inr (refl, (refl, refl))
plain_byte (negsuc n) (suc i) h = inl (every_at 0 (decimal-digits (suc n)) i (omega arith))

-- no digit behind the front is a leading zero: those of a value below zero begin above `0`
pub plain-first : (z : ℤ) → (get_or (plain z) 0 0 ≡ 48 → z ≡ pos 0) × (get_or (plain z) 0 0 ≡ 45 → 48 < get_or (plain z) 1 0)
plain-first (pos n) = (λ e. ap pos (decimal-zero n e), λ e. absurd (omega (arith, decimal_head n)))
plain-first (negsuc n) = (λ e. absurd (omega arith), λ e. decimal-first (suc n) (omega arith))

-- a value has one text, and a text one value
pub plain_inj : (y z : ℤ) → plain y ≡ plain z → y ≡ z
plain_inj (pos m) (pos n) e = ap pos (decimal_inj m n e)
plain_inj (pos m) (negsuc n) e = absurd (omega (arith, decimal_head m, ap (λ (t : List ℕ). get_or t 0 0) e))
plain_inj (negsuc m) (pos n) e = absurd (omega (arith, decimal_head n, ap (λ (t : List ℕ). get_or t 0 0) e))
plain_inj (negsuc m) (negsuc n) e =
    let q : suc m ≡ suc n = decimal_inj (suc m) (suc n) (ap (drop 1) e) in
    ap negsuc (omega arith)

-- A table of a function's values, made place by place; and words stored from a place on.
use Prim.Native.Nat.{ℕ, zero, suc, ◌+◌, ◌*◌, ◌<◌, ◌≤◌}
use native.Mathlib.Omega.{arith}
use native.Mathlib.Numerals.{add-one}
use native.Mathlib.Nat.{add-zero, add-suc, suc-add, mul-suc}
use mathlib.Core.Path.{◌≡◌, refl, sym, ap, ◌∙◌}
use mathlib.Core.List.{List, [], ◌∷◌, ◌++◌}
use lib.ListN.{length, get_or, set, drop, drop_of_length-le}
use mir.Val.{bool_byte}
use Rattle.transaction.specs.declared.Transaction.{Transaction}
use lib.Seq.{ext_get_or, drop-cons, sets}
use Rattle.memory.specs.Memory.{tab, base_of, mark_words, write_words, row_words, stored}

module _ {A : Type 0} where
  pub length-tab : (f : ℕ → A) (n : ℕ) → length (tab f n) ≡ n
  unfolding tab
  length-tab f zero = refl
  length-tab f (suc n) = ap suc (length-tab (λ (i : ℕ). f (suc i)) n)

  pub get_or-tab : (f : ℕ → A) (n i : ℕ) (d : A) → i < n → get_or (tab f n) i d ≡ f i
  unfolding tab
  get_or-tab f zero i d h = absurd (omega arith)
  get_or-tab f (suc n) zero d h = refl
  get_or-tab f (suc n) (suc i) d h = get_or-tab (λ (j : ℕ). f (suc j)) n i d (omega arith)

  -- a list that has f's value at every place is the table
  pub is_tab : (f : ℕ → A) (n : ℕ) (d : A) (l : List A) → length l ≡ n → ((i : ℕ) → i < n → get_or l i d ≡ f i) → l ≡ tab f n
  is_tab f n d l e h = ext_get_or d l (tab f n) (e ∙ sym (length-tab f n)) (λ i k. h i (omega arith) ∙ sym (get_or-tab f n i d (omega arith)))

-- words laid down one run behind the other are laid down at once
pub sets_append : {A : Type 0} (l : List A) (at : ℕ) (xs ys : List A) → sets (sets l at xs) (at + length xs) ys ≡ sets l at (xs ++ ys)
sets_append l at [] ys = rw add-zero
sets_append l at (x ∷ xs) ys = rw (add-suc at (length xs), ← suc-add at (length xs)) (sets_append (set l at x) (suc at) xs ys)

-- a row laid down from its i-th on
module _ {A : Type 0} (f : A → List ℕ) (w : ℕ) (as_many : (x : A) → length (f x) ≡ w) where
  pub row-step : (ws : List ℕ) (from i : ℕ) (l : List A) (x : A) → i < length l → get_or l i x ≡ x
      → sets (sets ws (from + w * i) (f x)) (from + w * (i + 1)) (row_words f (drop (i + 1) l)) ≡ sets ws (from + w * i) (row_words f (drop i l))
  unfolding row_words
  row-step ws from i l x h e =
      let n : from + w * (i + 1) ≡ from + w * i + length (f x) = let m = mul-suc w i in let g = as_many x in rw (add-one i) (omega (arith, m)) in
      rw (n, sets_append ws (from + w * i) (f x) (row_words f (drop (i + 1) l)), drop-cons l i x h, e, add-one i)

  pub row_end : (ws : List ℕ) (from i : ℕ) (l : List A) → length l ≤ i → ws ≡ sets ws (from + w * i) (row_words f (drop i l))
  unfolding row_words
  row_end ws from i l h = rw (drop_of_length-le l h)

-- the seven words in front of a transaction's reads and writes
pub head_stored : (ws : List ℕ) (b : ℕ) (x0 x1 x2 x3 x4 x5 x6 : ℕ)
    → set (set (set (set (set (set (set ws b x0) (b + 1) x1) (b + 2) x2) (b + 3) x3) (b + 4) x4) (b + 5) x5) (b + 6) x6
    ≡ sets ws b (x0 ∷ x1 ∷ x2 ∷ x3 ∷ x4 ∷ x5 ∷ x6 ∷ [])
head_stored ws b x0 x1 x2 x3 x4 x5 x6 =
    let e2 : b + 2 ≡ suc (suc b) = omega arith in
    let e3 : b + 3 ≡ suc (suc (suc b)) = omega arith in
    let e4 : b + 4 ≡ suc (suc (suc (suc b))) = omega arith in
    let e5 : b + 5 ≡ suc (suc (suc (suc (suc b)))) = omega arith in
    let e6 : b + 6 ≡ suc (suc (suc (suc (suc (suc b))))) = omega arith in
    rw (e6, e5, e4, e3, e2, add-one b)

pub store_goes : (ws u v : List ℕ) (p b f k1 k2 k3 : ℕ) (t : Transaction) → b ≡ base_of p → f ≡ bool_byte t.live → k1 ≡ t.bounds.k1 → k2 ≡ t.bounds.k2
    → k3 ≡ t.bounds.k3
    → u ≡ sets (set (set (set (set (set (set (set ws b t.name.0) (b + 1) f) (b + 2) k1) (b + 3) k2) (b + 4) k3) (b + 5) t.recorded) (b + 6) t.written) (b + 7) (mark_words t.reads)
    → v ≡ sets u (b + 55) (write_words t.writes)
    → v ≡ stored ws p t
unfolding stored
store_goes ws u v p b f k1 k2 k3 t e g h1 h2 h3 first second =
    second ∙ rw (first, head_stored ws b t.name.0 f k1 k2 k3 t.recorded t.written, g, h1, h2, h3, e)

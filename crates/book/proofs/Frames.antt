-- Which words a row, a recorded read and a verdict depend on, and which words each store changes.
use Prim.Native.Nat.{ℕ, zero, suc, ◌+◌, ◌*◌, ◌/◌, ◌%◌, ◌<◌, ◌≤◌}
use native.Mathlib.Omega.{arith}
use native.Mathlib.Nat.{mod-eq_of_lt}
use mathlib.Core.Path.{◌≡◌, refl}
use mathlib.Core.List.{List, ◌∷◌}
use lib.ListN.{length, get_or, length-set}
use lib.Seq.{get_or-set_same, get_or-set_other}
use Rattle.records.specs.Order.{code_of}
use Rattle.records.proofs.Order.{verdict_back}
use Rattle.records.specs.declared.Judged.{Judged}
use Rattle.records.specs.declared.Row.{Row}
use Rattle.records.specs.declared.Seen.{Seen}
use Rattle.book.specs.Layout.{ends_from, judged_codes_from, judged_names_from, k1s_from, k2s_from, k3s_from, highs_from, lows_from, lasts_from, names_from, seen_befores_from, seen_keys_from, seen_lines_from, starts_from, word_count}
use Rattle.book.specs.Book.{key_word, row_at, rows_of, seen_at, seens_of, judged_at, judged_of, Fits, row_words, seen_words, judged_words}

-- two lists made one at a time, the newest first, are the same where each of theirs is
each : {A : Type 0} (f g : ℕ → A) (a b : ℕ → List A) → a 0 ≡ b 0 → ((n : ℕ) → a (suc n) ≡ f n ∷ a n) → ((n : ℕ) → b (suc n) ≡ g n ∷ b n)
    → (n : ℕ) → ((m : ℕ) → m < n → f m ≡ g m) → a n ≡ b n
each f g a b o p q zero h = o
each f g a b o p q (suc n) h = rw (p n, q n, h n (omega arith), each f g a b o p q n (λ m k. h m (omega arith)))

module _ (ws us : List ℕ) where
  -- the first of them, where each is the same
  pub rows-each : (n : ℕ) → ((m : ℕ) → m < n → row_at us m ≡ row_at ws m) → rows_of us n ≡ rows_of ws n
  unfolding rows_of
  rows-each = each (row_at us) (row_at ws) (rows_of us) (rows_of ws) refl (λ n. refl) (λ n. refl)

  pub seens-each : (n : ℕ) → ((m : ℕ) → m < n → seen_at us m ≡ seen_at ws m) → seens_of us n ≡ seens_of ws n
  unfolding seens_of
  seens-each = each (seen_at us) (seen_at ws) (seens_of us) (seens_of ws) refl (λ n. refl) (λ n. refl)

  pub judgeds_each : (n : ℕ) → ((m : ℕ) → m < n → judged_at us m ≡ judged_at ws m) → judged_of us n ≡ judged_of ws n
  unfolding judged_of
  judgeds_each = each (judged_at us) (judged_at ws) (judged_of us) (judged_of ws) refl (λ n. refl) (λ n. refl)

  -- the rows depend on the words from 3 on, the recorded reads on those from 4,611 on, the verdicts on those from 16,899 on
  module _ (same : (j : ℕ) → names_from ≤ j → j < seen_keys_from → get_or us j 0 ≡ get_or ws j 0) where
    pub row_frame : (n : ℕ) → n < 512 → row_at us n ≡ row_at ws n
    row_frame n h =
        rw
        (same (names_from + n) (omega arith) (omega arith), same (starts_from + n) (omega arith) (omega arith), same (ends_from + n) (omega arith) (omega arith), same (lows_from + n) (omega arith) (omega arith), same (highs_from + n) (omega arith) (omega arith), same (k1s_from + n) (omega arith) (omega arith), same (k2s_from + n) (omega arith) (omega arith), same (k3s_from + n) (omega arith) (omega arith), same (lasts_from + n) (omega arith) (omega arith))

    pub rows_frame : (n : ℕ) → n ≤ 512 → rows_of us n ≡ rows_of ws n
    rows_frame n h = rows-each n (λ m k. row_frame m (omega arith))

  module _ (same : (j : ℕ) → seen_keys_from ≤ j → j < judged_names_from → get_or us j 0 ≡ get_or ws j 0) where
    pub seen_frame : (n : ℕ) → n < 4096 → seen_at us n ≡ seen_at ws n
    seen_frame n h =
        rw
        (same (seen_keys_from + n) (omega arith) (omega arith), same (seen_lines_from + n) (omega arith) (omega arith), same (seen_befores_from + n) (omega arith) (omega arith))

    pub seens_frame : (n : ℕ) → n ≤ 4096 → seens_of us n ≡ seens_of ws n
    seens_frame n h = seens-each n (λ m k. seen_frame m (omega arith))

  module _ (same : (j : ℕ) → judged_names_from ≤ j → j < word_count → get_or us j 0 ≡ get_or ws j 0) where
    pub judged_frame : (n : ℕ) → n < 512 → judged_at us n ≡ judged_at ws n
    judged_frame n h =
        rw
        (same (judged_names_from + n) (omega arith) (omega arith), same (judged_codes_from + n) (omega arith) (omega arith))

    pub judgeds_frame : (n : ℕ) → n ≤ 512 → judged_of us n ≡ judged_of ws n
    judgeds_frame n h = judgeds_each n (λ m k. judged_frame m (omega arith))

  -- one more of them
  pub rows-newest : (n : ℕ) (r : Row) → row_at us n ≡ r → ((m : ℕ) → m < n → row_at us m ≡ row_at ws m) → rows_of us (suc n) ≡ r ∷ rows_of ws n
  unfolding rows_of
  rows-newest n r e h = rw (e, rows-each n h)

  pub seens-newest : (n : ℕ) (s : Seen) → seen_at us n ≡ s → ((m : ℕ) → m < n → seen_at us m ≡ seen_at ws m) → seens_of us (suc n) ≡ s ∷ seens_of ws n
  unfolding seens_of
  seens-newest n s e h = rw (e, seens-each n h)

  pub judgeds_newest : (n : ℕ) (v : Judged) → judged_at us n ≡ v → ((m : ℕ) → m < n → judged_at us m ≡ judged_at ws m) → judged_of us (suc n) ≡ v ∷ judged_of ws n
  unfolding judged_of
  judgeds_newest n v e h = rw (e, judgeds_each n h)

-- a row stored at a place
module _ (ws : List ℕ) (i : ℕ) (r : Row) where
  -- a word that no field is stored in
  pub row_word : (j : ℕ) → ((k : ℕ) → k < 9 → j ≡ names_from + 512 * k + i → ⊥) → get_or (row_words ws i r) j 0 ≡ get_or ws j 0
  row_word j h =
      let n0 : j ≡ names_from + i → ⊥ = λ e. h 0 (omega arith) (omega arith) in
      let n1 : j ≡ starts_from + i → ⊥ = λ e. h 1 (omega arith) (omega arith) in
      let n2 : j ≡ ends_from + i → ⊥ = λ e. h 2 (omega arith) (omega arith) in
      let n3 : j ≡ lows_from + i → ⊥ = λ e. h 3 (omega arith) (omega arith) in
      let n4 : j ≡ highs_from + i → ⊥ = λ e. h 4 (omega arith) (omega arith) in
      let n5 : j ≡ k1s_from + i → ⊥ = λ e. h 5 (omega arith) (omega arith) in
      let n6 : j ≡ k2s_from + i → ⊥ = λ e. h 6 (omega arith) (omega arith) in
      let n7 : j ≡ k3s_from + i → ⊥ = λ e. h 7 (omega arith) (omega arith) in
      let n8 : j ≡ lasts_from + i → ⊥ = λ e. h 8 (omega arith) (omega arith) in
      simp get_or-set_other

  pub row-words-length : length (row_words ws i r) ≡ length ws
  row-words-length = simp length-set

  -- no other row changes
  pub row-words-other : i < 512 → (j : ℕ) → j < 512 → (j ≡ i → ⊥) → row_at (row_words ws i r) j ≡ row_at ws j
  row-words-other below j l h =
      rw
      (row_word (names_from + j) (λ k m e. h (omega arith)), row_word (starts_from + j) (λ k m e. h (omega arith)), row_word (ends_from + j) (λ k m e. h (omega arith)), row_word (lows_from + j) (λ k m e. h (omega arith)), row_word (highs_from + j) (λ k m e. h (omega arith)), row_word (k1s_from + j) (λ k m e. h (omega arith)), row_word (k2s_from + j) (λ k m e. h (omega arith)), row_word (k3s_from + j) (λ k m e. h (omega arith)), row_word (lasts_from + j) (λ k m e. h (omega arith)))

  -- the row stored stands there
  module _ (whole : length ws ≡ word_count) (below : i < 512) where
    of_names : get_or (row_words ws i r) (names_from + i) 0 ≡ r.name
    of_names = grind (arith, get_or-set_same, get_or-set_other, length-set)

    of_starts : get_or (row_words ws i r) (starts_from + i) 0 ≡ r.start
    of_starts = grind (arith, get_or-set_same, get_or-set_other, length-set)

    of_ends : get_or (row_words ws i r) (ends_from + i) 0 ≡ r.end
    of_ends = grind (arith, get_or-set_same, get_or-set_other, length-set)

    of_lows : get_or (row_words ws i r) (lows_from + i) 0 ≡ r.keys % 4294967296
    of_lows = grind (arith, get_or-set_same, get_or-set_other, length-set)

    of_highs : get_or (row_words ws i r) (highs_from + i) 0 ≡ r.keys / 4294967296
    of_highs = grind (arith, get_or-set_same, get_or-set_other, length-set)

    of_k1s : get_or (row_words ws i r) (k1s_from + i) 0 ≡ r.bounds.k1
    of_k1s = grind (arith, get_or-set_same, get_or-set_other, length-set)

    of_k2s : get_or (row_words ws i r) (k2s_from + i) 0 ≡ r.bounds.k2
    of_k2s = grind (arith, get_or-set_same, get_or-set_other, length-set)

    of_k3s : get_or (row_words ws i r) (k3s_from + i) 0 ≡ r.bounds.k3
    of_k3s = grind (arith, get_or-set_same, get_or-set_other, length-set)

    of_lasts : get_or (row_words ws i r) (lasts_from + i) 0 ≡ r.last
    of_lasts = grind (arith, get_or-set_same, get_or-set_other, length-set)

    halves : r.keys < 18446744073709551616 → key_word (r.keys % 4294967296) (r.keys / 4294967296) ≡ r.keys
    halves h = omega arith

    pub row-words-same : Fits r → row_at (row_words ws i r) i ≡ r
    row-words-same f = rw (of_names, of_starts, of_ends, of_lows, of_highs, of_k1s, of_k2s, of_k3s, of_lasts, halves f.keys, mod-eq_of_lt f.k1, mod-eq_of_lt f.k2, mod-eq_of_lt f.k3)

-- the same of a recorded read
module _ (ws : List ℕ) (i : ℕ) (s : Seen) where
  pub seen_word : (j : ℕ) → ((k : ℕ) → k < 3 → j ≡ seen_keys_from + 4096 * k + i → ⊥) → get_or (seen_words ws i s) j 0 ≡ get_or ws j 0
  seen_word j h =
      let n0 : j ≡ seen_keys_from + i → ⊥ = λ e. h 0 (omega arith) (omega arith) in
      let n1 : j ≡ seen_lines_from + i → ⊥ = λ e. h 1 (omega arith) (omega arith) in
      let n2 : j ≡ seen_befores_from + i → ⊥ = λ e. h 2 (omega arith) (omega arith) in
      simp get_or-set_other

  pub seen_words-length : length (seen_words ws i s) ≡ length ws
  seen_words-length = simp length-set

  pub seen_words-other : i < 4096 → (j : ℕ) → j < 4096 → (j ≡ i → ⊥) → seen_at (seen_words ws i s) j ≡ seen_at ws j
  seen_words-other below j l h =
      rw
      (seen_word (seen_keys_from + j) (λ k m e. h (omega arith)), seen_word (seen_lines_from + j) (λ k m e. h (omega arith)), seen_word (seen_befores_from + j) (λ k m e. h (omega arith)))

  module _ (whole : length ws ≡ word_count) (below : i < 4096) where
    of_keys : get_or (seen_words ws i s) (seen_keys_from + i) 0 ≡ s.key
    of_keys = grind (arith, get_or-set_same, get_or-set_other, length-set)

    of_lines : get_or (seen_words ws i s) (seen_lines_from + i) 0 ≡ s.line
    of_lines = grind (arith, get_or-set_same, get_or-set_other, length-set)

    of_befores : get_or (seen_words ws i s) (seen_befores_from + i) 0 ≡ s.before
    of_befores = grind (arith, get_or-set_same, get_or-set_other, length-set)

    pub seen_words-same : seen_at (seen_words ws i s) i ≡ s
    seen_words-same = rw (of_keys, of_lines, of_befores)

-- and of a verdict
module _ (ws : List ℕ) (i : ℕ) (v : Judged) where
  pub judged_word : (j : ℕ) → ((k : ℕ) → k < 2 → j ≡ judged_names_from + 512 * k + i → ⊥) → get_or (judged_words ws i v) j 0 ≡ get_or ws j 0
  judged_word j h =
      let n0 : j ≡ judged_names_from + i → ⊥ = λ e. h 0 (omega arith) (omega arith) in
      let n1 : j ≡ judged_codes_from + i → ⊥ = λ e. h 1 (omega arith) (omega arith) in
      simp get_or-set_other

  pub judged-words-length : length (judged_words ws i v) ≡ length ws
  judged-words-length = simp length-set

  pub judged-words-other : i < 512 → (j : ℕ) → j < 512 → (j ≡ i → ⊥) → judged_at (judged_words ws i v) j ≡ judged_at ws j
  judged-words-other below j l h =
      rw
      (judged_word (judged_names_from + j) (λ k m e. h (omega arith)), judged_word (judged_codes_from + j) (λ k m e. h (omega arith)))

  module _ (whole : length ws ≡ word_count) (below : i < 512) where
    of_whose : get_or (judged_words ws i v) (judged_names_from + i) 0 ≡ v.name
    of_whose = grind (arith, get_or-set_same, get_or-set_other, length-set)

    of_codes : get_or (judged_words ws i v) (judged_codes_from + i) 0 ≡ code_of v.verdict
    of_codes = grind (arith, get_or-set_same, get_or-set_other, length-set)

    pub judged-words-same : judged_at (judged_words ws i v) i ≡ v
    judged-words-same = rw (of_whose, of_codes, verdict_back v.verdict)

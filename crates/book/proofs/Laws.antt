-- What the memory stands for after a store: the row, the read or the verdict stands where it was put, and everything else as before.
use Prim.Native.Nat.{ℕ, zero, suc, ◌+◌, ◌*◌, ◌<◌, ◌≤◌, min}
use native.Mathlib.Omega.{arith}
use native.Mathlib.Nat.{mod-lt}
use mathlib.Core.Path.{◌≡◌, refl, ap, ◌∙◌}
use mathlib.Core.Bool.{Bool, true, false, cond}
use mathlib.Core.List.{List, ◌∷◌}
use lib.Dec.{ltb}
use lib.ListN.{length, get_or, set, length-set}
use lib.Seq.{get_or-set_same, get_or-set_other}
use borrow.Author.Tests.{lt-ltb, ltb-true}
use Rattle.records.specs.Ledger.{no_row}
use Rattle.records.specs.declared.Judged.{Judged}
use Rattle.records.specs.declared.Row.{Row}
use Rattle.records.specs.declared.Seen.{Seen}
use Rattle.book.specs.Layout.{judged_names_from, names_from, reads_at, rows_at, seen_keys_from, verdicts_at, word_count}
use Rattle.book.specs.Book.{Fits, row_at, rows_of, seen_at, seens_of, judged_at, judged_of, row_count, read_count, verdict_count, rows_in, seens_in, judged_in, ledger_of, row_loaded, row_words, row_stored, row_added, seen_words, seen_added, judged_words, judged_added}
use Rattle.book.proofs.Frames.{row_frame, rows_frame, seen_frame, seens_frame, judged_frame, judgeds_frame, rows-each, rows-newest, seens-newest, judgeds_newest, row_word, row-words-length, row-words-same, row-words-other, seen_word, seen_words-length, seen_words-same, seen_words-other, judged_word, judged-words-length, judged-words-same, judged-words-other}

-- ---- how many there are
module _ (ws : List ℕ) where
  pub rows-length : (n : ℕ) → length (rows_of ws n) ≡ n
  unfolding rows_of
  rows-length zero = refl
  rows-length (suc n) = ap suc (rows-length n)

  pub seens-length : (n : ℕ) → length (seens_of ws n) ≡ n
  unfolding seens_of
  seens-length zero = refl
  seens-length (suc n) = ap suc (seens-length n)

  pub judged-length : (n : ℕ) → length (judged_of ws n) ≡ n
  unfolding judged_of
  judged-length zero = refl
  judged-length (suc n) = ap suc (judged-length n)

-- ---- a row at a place
module _ (ws : List ℕ) (i : ℕ) (r : Row) where
  stored_at : i < 512 → row_stored ws i r ≡ row_words ws i r
  unfolding row_stored
  stored_at h = rw (lt-ltb i 512 h)

  -- no word outside the rows changes
  pub stored-before : (j : ℕ) → j < names_from → get_or (row_stored ws i r) j 0 ≡ get_or ws j 0
  unfolding row_stored
  stored-before j h = go (ltb i 512)
    where
      go : (b : Bool) → get_or (cond b (row_words ws i r) ws) j 0 ≡ get_or ws j 0
      go true = row_word ws i r j (λ k l e. omega arith)
      go false = refl

  pub stored-behind : (j : ℕ) → seen_keys_from ≤ j → get_or (row_stored ws i r) j 0 ≡ get_or ws j 0
  unfolding row_stored
  stored-behind j h = go (ltb i 512) refl
    where
      go : (b : Bool) → ltb i 512 ≡ b → get_or (cond b (row_words ws i r) ws) j 0 ≡ get_or ws j 0
      go true f = let l = ltb-true i 512 f in row_word ws i r j (λ k m e. omega arith)
      go false f = refl

  pub stored-length : length (row_stored ws i r) ≡ length ws
  unfolding row_stored
  stored-length = go (ltb i 512)
    where
      go : (b : Bool) → length (cond b (row_words ws i r) ws) ≡ length ws
      go true = row-words-length ws i r
      go false = refl

  pub stored-row-count : row_count (row_stored ws i r) ≡ row_count ws
  stored-row-count = ap (λ (n : ℕ). min n 512) (stored-before rows_at (omega arith))

  pub stored-read-count : read_count (row_stored ws i r) ≡ read_count ws
  stored-read-count = ap (λ (n : ℕ). min n 4096) (stored-before reads_at (omega arith))

  pub stored_verdict_count : verdict_count (row_stored ws i r) ≡ verdict_count ws
  stored_verdict_count = ap (λ (n : ℕ). min n 512) (stored-before verdicts_at (omega arith))

  pub stored_seen : (j : ℕ) → j < 4096 → seen_at (row_stored ws i r) j ≡ seen_at ws j
  stored_seen = seen_frame ws (row_stored ws i r) (λ j l m. stored-behind j l)

  pub stored-judged : (j : ℕ) → j < 512 → judged_at (row_stored ws i r) j ≡ judged_at ws j
  stored-judged = judged_frame ws (row_stored ws i r) (λ j l m. stored-behind j (omega arith))

  pub stored-seens : seens_in (row_stored ws i r) ≡ seens_in ws
  stored-seens = rw stored-read-count (seens_frame ws (row_stored ws i r) (λ j l m. stored-behind j l) (read_count ws) (omega arith))

  pub stored_judgeds : judged_in (row_stored ws i r) ≡ judged_in ws
  stored_judgeds = rw stored_verdict_count (judgeds_frame ws (row_stored ws i r) (λ j l m. stored-behind j (omega arith)) (verdict_count ws) (omega arith))

  -- the rest of the ledger stays
  pub stored-ledger : (rows : List Row) → rows_in (row_stored ws i r) ≡ rows → ledger_of (row_stored ws i r) ≡ record { rows = rows; seens = seens_in ws; judged = judged_in ws }
  stored-ledger rows e = rw (e, stored-seens, stored_judgeds)

  -- the row stored stands there, every other as before
  pub row_same : length ws ≡ word_count → i < 512 → Fits r → row_at (row_stored ws i r) i ≡ r
  row_same whole h f = rw (stored_at h) (row-words-same ws i r whole h f)

  pub row_other : (j : ℕ) → j < 512 → (j ≡ i → ⊥) → row_at (row_stored ws i r) j ≡ row_at ws j
  unfolding row_stored
  row_other j l h = go (ltb i 512) refl
    where
      go : (b : Bool) → ltb i 512 ≡ b → row_at (cond b (row_words ws i r) ws) j ≡ row_at ws j
      go true f = row-words-other ws i r (ltb-true i 512 f) j l h
      go false f = refl

  -- and so do the rows in front of it
  pub rows_above : (n : ℕ) → n ≤ 512 → n ≤ i → rows_of (row_stored ws i r) n ≡ rows_of ws n
  rows_above n k h = rows-each ws (row_stored ws i r) n (λ m l. row_other m (omega arith) (λ e. omega arith))

-- ---- one row more
module _ (ws : List ℕ) (r : Row) where
  pub row-added-length : length (row_added ws r) ≡ length ws
  unfolding row_added
  row-added-length = go (ltb (row_count ws) 512)
    where
      go : (b : Bool) → length (cond b (set (row_words ws (row_count ws) r) rows_at (suc (row_count ws))) ws) ≡ length ws
      go true = length-set (row_words ws (row_count ws) r) rows_at (suc (row_count ws)) ∙ row-words-length ws (row_count ws) r
      go false = refl

  -- no word changes but its own and the count
  row-added_word : (j : ℕ) → (j ≡ rows_at → ⊥) → (row_count ws < 512 → (k : ℕ) → k < 9 → j ≡ names_from + 512 * k + row_count ws → ⊥)
      → get_or (row_added ws r) j 0 ≡ get_or ws j 0
  unfolding row_added
  row-added_word j h f = go (ltb (row_count ws) 512) refl
    where
      go : (b : Bool) → ltb (row_count ws) 512 ≡ b → get_or (cond b (set (row_words ws (row_count ws) r) rows_at (suc (row_count ws))) ws) j 0 ≡ get_or ws j 0
      go true e = get_or-set_other (row_words ws (row_count ws) r) rows_at j (suc (row_count ws)) 0 h ∙ row_word ws (row_count ws) r j (f (ltb-true (row_count ws) 512 e))
      go false e = refl

  pub row-added-seens : seens_in (row_added ws r) ≡ seens_in ws
  row-added-seens =
      let counted : get_or (row_added ws r) reads_at 0 ≡ get_or ws reads_at 0 = row-added_word reads_at (λ e. omega arith) (λ l k m e. omega arith) in
      rw counted (seens_frame ws (row_added ws r) (λ j l m. row-added_word j (λ e. omega arith) (λ p k q e. omega arith)) (read_count ws) (omega arith))

  pub row-added_judgeds : judged_in (row_added ws r) ≡ judged_in ws
  row-added_judgeds =
      let counted : get_or (row_added ws r) verdicts_at 0 ≡ get_or ws verdicts_at 0 = row-added_word verdicts_at (λ e. omega arith) (λ l k m e. omega arith) in
      rw counted (judgeds_frame ws (row_added ws r) (λ j l m. row-added_word j (λ e. omega arith) (λ p k q e. omega arith)) (verdict_count ws) (omega arith))

  module _ (whole : length ws ≡ word_count) (room : row_count ws < 512) where
    row-added-at : row_added ws r ≡ set (row_words ws (row_count ws) r) rows_at (suc (row_count ws))
    unfolding row_added
    row-added-at = rw (lt-ltb (row_count ws) 512 room)

    row-added_mark : get_or (set (row_words ws (row_count ws) r) rows_at (suc (row_count ws))) rows_at 0 ≡ suc (row_count ws)
    row-added_mark = get_or-set_same (row_words ws (row_count ws) r) rows_at (suc (row_count ws)) 0 (omega (arith, row-words-length ws (row_count ws) r))

    pub row-added-count : row_count (row_added ws r) ≡ suc (row_count ws)
    row-added-count = rw row-added-at (rw row-added_mark (omega arith))

    row-added-own : (n : ℕ) → n < 512 → row_at (row_added ws r) n ≡ row_at (row_words ws (row_count ws) r) n
    row-added-own n h =
        rw row-added-at
        (row_frame (row_words ws (row_count ws) r) (set (row_words ws (row_count ws) r) rows_at (suc (row_count ws))) (λ j l m. get_or-set_other (row_words ws (row_count ws) r) rows_at j (suc (row_count ws)) 0 (λ e. omega arith)) n h)

    pub row-added-rows : Fits r → rows_in (row_added ws r) ≡ r ∷ rows_in ws
    row-added-rows f =
        rw row-added-count
        (rows-newest ws (row_added ws r) (row_count ws) r (row-added-own (row_count ws) room ∙ row-words-same ws (row_count ws) r whole room f)
        (λ m h. row-added-own m (omega arith) ∙ row-words-other ws (row_count ws) r room m (omega arith) (λ e. omega arith)))

    pub row-added-ledger : Fits r → ledger_of (row_added ws r) ≡ record { rows = r ∷ rows_in ws; seens = seens_in ws; judged = judged_in ws }
    row-added-ledger f = rw (row-added-rows f, row-added-seens, row-added_judgeds)

-- ---- one recorded read more
module _ (ws : List ℕ) (s : Seen) where
  pub seen_added-length : length (seen_added ws s) ≡ length ws
  unfolding seen_added
  seen_added-length = go (ltb (read_count ws) 4096)
    where
      go : (b : Bool) → length (cond b (set (seen_words ws (read_count ws) s) reads_at (suc (read_count ws))) ws) ≡ length ws
      go true = length-set (seen_words ws (read_count ws) s) reads_at (suc (read_count ws)) ∙ seen_words-length ws (read_count ws) s
      go false = refl

  -- no word changes but its own and the count
  seen_added_word : (j : ℕ) → (j ≡ reads_at → ⊥) → (read_count ws < 4096 → (k : ℕ) → k < 3 → j ≡ seen_keys_from + 4096 * k + read_count ws → ⊥)
      → get_or (seen_added ws s) j 0 ≡ get_or ws j 0
  unfolding seen_added
  seen_added_word j h f = go (ltb (read_count ws) 4096) refl
    where
      go : (b : Bool) → ltb (read_count ws) 4096 ≡ b → get_or (cond b (set (seen_words ws (read_count ws) s) reads_at (suc (read_count ws))) ws) j 0 ≡ get_or ws j 0
      go true e = get_or-set_other (seen_words ws (read_count ws) s) reads_at j (suc (read_count ws)) 0 h ∙ seen_word ws (read_count ws) s j (f (ltb-true (read_count ws) 4096 e))
      go false e = refl

  pub seen_added-rows : rows_in (seen_added ws s) ≡ rows_in ws
  seen_added-rows =
      let counted : get_or (seen_added ws s) rows_at 0 ≡ get_or ws rows_at 0 = seen_added_word rows_at (λ e. omega arith) (λ l k m e. omega arith) in
      rw counted (rows_frame ws (seen_added ws s) (λ j l m. seen_added_word j (λ e. omega arith) (λ p k q e. omega arith)) (row_count ws) (omega arith))

  pub seen_added_judgeds : judged_in (seen_added ws s) ≡ judged_in ws
  seen_added_judgeds =
      let counted : get_or (seen_added ws s) verdicts_at 0 ≡ get_or ws verdicts_at 0 = seen_added_word verdicts_at (λ e. omega arith) (λ l k m e. omega arith) in
      rw counted (judgeds_frame ws (seen_added ws s) (λ j l m. seen_added_word j (λ e. omega arith) (λ p k q e. omega arith)) (verdict_count ws) (omega arith))

  module _ (whole : length ws ≡ word_count) (room : read_count ws < 4096) where
    seen_added-at : seen_added ws s ≡ set (seen_words ws (read_count ws) s) reads_at (suc (read_count ws))
    unfolding seen_added
    seen_added-at = rw (lt-ltb (read_count ws) 4096 room)

    seen_added_mark : get_or (set (seen_words ws (read_count ws) s) reads_at (suc (read_count ws))) reads_at 0 ≡ suc (read_count ws)
    seen_added_mark = get_or-set_same (seen_words ws (read_count ws) s) reads_at (suc (read_count ws)) 0 (omega (arith, seen_words-length ws (read_count ws) s))

    pub seen_added-count : read_count (seen_added ws s) ≡ suc (read_count ws)
    seen_added-count = rw seen_added-at (rw seen_added_mark (omega arith))

    seen_added-own : (n : ℕ) → n < 4096 → seen_at (seen_added ws s) n ≡ seen_at (seen_words ws (read_count ws) s) n
    seen_added-own n h =
        rw seen_added-at
        (seen_frame (seen_words ws (read_count ws) s) (set (seen_words ws (read_count ws) s) reads_at (suc (read_count ws))) (λ j l m. get_or-set_other (seen_words ws (read_count ws) s) reads_at j (suc (read_count ws)) 0 (λ e. omega arith)) n h)

    pub seen_added-seens : seens_in (seen_added ws s) ≡ s ∷ seens_in ws
    seen_added-seens =
        rw seen_added-count
        (seens-newest ws (seen_added ws s) (read_count ws) s (seen_added-own (read_count ws) room ∙ seen_words-same ws (read_count ws) s whole room)
        (λ m h. seen_added-own m (omega arith) ∙ seen_words-other ws (read_count ws) s room m (omega arith) (λ e. omega arith)))

    pub seen_added-ledger : ledger_of (seen_added ws s) ≡ record { rows = rows_in ws; seens = s ∷ seens_in ws; judged = judged_in ws }
    seen_added-ledger = rw (seen_added-rows, seen_added-seens, seen_added_judgeds)

-- ---- one verdict more
module _ (ws : List ℕ) (v : Judged) where
  pub judged-added-length : length (judged_added ws v) ≡ length ws
  unfolding judged_added
  judged-added-length = go (ltb (verdict_count ws) 512)
    where
      go : (b : Bool) → length (cond b (set (judged_words ws (verdict_count ws) v) verdicts_at (suc (verdict_count ws))) ws) ≡ length ws
      go true = length-set (judged_words ws (verdict_count ws) v) verdicts_at (suc (verdict_count ws)) ∙ judged-words-length ws (verdict_count ws) v
      go false = refl

  -- no word changes but its own and the count
  judged-added_word : (j : ℕ) → (j ≡ verdicts_at → ⊥) → (verdict_count ws < 512 → (k : ℕ) → k < 2 → j ≡ judged_names_from + 512 * k + verdict_count ws → ⊥)
      → get_or (judged_added ws v) j 0 ≡ get_or ws j 0
  unfolding judged_added
  judged-added_word j h f = go (ltb (verdict_count ws) 512) refl
    where
      go : (b : Bool) → ltb (verdict_count ws) 512 ≡ b → get_or (cond b (set (judged_words ws (verdict_count ws) v) verdicts_at (suc (verdict_count ws))) ws) j 0 ≡ get_or ws j 0
      go true e = get_or-set_other (judged_words ws (verdict_count ws) v) verdicts_at j (suc (verdict_count ws)) 0 h ∙ judged_word ws (verdict_count ws) v j (f (ltb-true (verdict_count ws) 512 e))
      go false e = refl

  pub judged-added-rows : rows_in (judged_added ws v) ≡ rows_in ws
  judged-added-rows =
      let counted : get_or (judged_added ws v) rows_at 0 ≡ get_or ws rows_at 0 = judged-added_word rows_at (λ e. omega arith) (λ l k m e. omega arith) in
      rw counted (rows_frame ws (judged_added ws v) (λ j l m. judged-added_word j (λ e. omega arith) (λ p k q e. omega arith)) (row_count ws) (omega arith))

  pub judged-added-seens : seens_in (judged_added ws v) ≡ seens_in ws
  judged-added-seens =
      let counted : get_or (judged_added ws v) reads_at 0 ≡ get_or ws reads_at 0 = judged-added_word reads_at (λ e. omega arith) (λ l k m e. omega arith) in
      rw counted (seens_frame ws (judged_added ws v) (λ j l m. judged-added_word j (λ e. omega arith) (λ p k q e. omega arith)) (read_count ws) (omega arith))

  module _ (whole : length ws ≡ word_count) (room : verdict_count ws < 512) where
    judged-added-at : judged_added ws v ≡ set (judged_words ws (verdict_count ws) v) verdicts_at (suc (verdict_count ws))
    unfolding judged_added
    judged-added-at = rw (lt-ltb (verdict_count ws) 512 room)

    judged-added_mark : get_or (set (judged_words ws (verdict_count ws) v) verdicts_at (suc (verdict_count ws))) verdicts_at 0 ≡ suc (verdict_count ws)
    judged-added_mark = get_or-set_same (judged_words ws (verdict_count ws) v) verdicts_at (suc (verdict_count ws)) 0 (omega (arith, judged-words-length ws (verdict_count ws) v))

    pub judged-added-count : verdict_count (judged_added ws v) ≡ suc (verdict_count ws)
    judged-added-count = rw judged-added-at (rw judged-added_mark (omega arith))

    judged-added-own : (n : ℕ) → n < 512 → judged_at (judged_added ws v) n ≡ judged_at (judged_words ws (verdict_count ws) v) n
    judged-added-own n h =
        rw judged-added-at
        (judged_frame (judged_words ws (verdict_count ws) v) (set (judged_words ws (verdict_count ws) v) verdicts_at (suc (verdict_count ws))) (λ j l m. get_or-set_other (judged_words ws (verdict_count ws) v) verdicts_at j (suc (verdict_count ws)) 0 (λ e. omega arith)) n h)

    pub judged-added_judgeds : judged_in (judged_added ws v) ≡ v ∷ judged_in ws
    judged-added_judgeds =
        rw judged-added-count
        (judgeds_newest ws (judged_added ws v) (verdict_count ws) v (judged-added-own (verdict_count ws) room ∙ judged-words-same ws (verdict_count ws) v whole room)
        (λ m h. judged-added-own m (omega arith) ∙ judged-words-other ws (verdict_count ws) v room m (omega arith) (λ e. omega arith)))

    pub judged-added-ledger : ledger_of (judged_added ws v) ≡ record { rows = rows_in ws; seens = seens_in ws; judged = v ∷ judged_in ws }
    judged-added-ledger = rw (judged-added-rows, judged-added-seens, judged-added_judgeds)

-- ---- a row of the memory is one that its words can say
pub fits-row : (ws : List ℕ) (i : ℕ) → Fits (row_at ws i)
fits-row ws i = record { keys = omega arith; k1 = mod-lt _ (omega arith); k2 = mod-lt _ (omega arith); k3 = mod-lt _ (omega arith) }

pub fits-loaded : (ws : List ℕ) (n : ℕ) → Fits (row_loaded ws n)
unfolding row_loaded
fits-loaded ws zero = record { keys = omega arith; k1 = omega arith; k2 = omega arith; k3 = omega arith }
fits-loaded ws (suc i) = go (ltb i 512)
  where
    go : (b : Bool) → Fits (cond b (row_at ws i) no_row)
    go true = fits-row ws i
    go false = record { keys = omega arith; k1 = omega arith; k2 = omega arith; k3 = omega arith }

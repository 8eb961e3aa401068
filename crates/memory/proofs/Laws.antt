-- What is stored at a place is loaded there again, and nothing else is touched.
use Prim.Native.Nat.{ℕ, zero, suc, ◌+◌, ◌*◌, ◌<◌, ◌≤◌, max}
use native.Mathlib.Omega.{arith}
use native.Mathlib.Nat.{add-zero, add-suc, suc-add, mul-suc, mul-zero, mod-eq_of_lt, mod-lt}
use native.Mathlib.Decide.{ℕ_discrete, dec_lt}
use mathlib.Core.Path.{◌≡◌, refl, sym, ◌∙◌}
use mathlib.Core.Bool.{Bool, true, false, not, cond}
use mathlib.Core.List.{List, [], ◌∷◌}
use lib.Dec.{eqb, ltb}
use lib.IntN.{ℤ}
use lib.ListN.{length, length-append, get_or, set, length-set, get_or-eq_default, replicate, get_or-replicate, length-replicate}
use borrow.Author.Tests.{ltb-true}
use lib.Seq.{get_or-set_same, get_or-set_other, sets, length-sets}
use mir.Syntax.{w32}
use mir.Val.{SFits, bool_byte}
use mir.Facts.{to_z-of_z}
use Rattle.transaction.specs.declared.Mark.{Mark}
use Rattle.transaction.specs.declared.Write.{Write}
use Rattle.transaction.specs.declared.Transaction.{Transaction}
use Rattle.transaction.specs.Transaction.{no_mark, no_write, fresh, written, wrote_at}
use Rattle.model.specs.State.{no_transaction}
use Rattle.memory.specs.Memory.{tab, base_of, mark_at, write_at, loaded, words_of_mark, words_of_write, row_words, mark_words, write_words, head_words, stored, entries, places_of, length_of, log_of, state_of, Good}
use Rattle.memory.proofs.Tables.{length-tab, get_or-tab, is_tab}
use Rattle.memory.proofs.Words.{value-fits}
use Rattle.memory.specs.Layout.{clock_at, desk_from, keys_from, live_at, ordinals_from, place_words, reads_from, stamps_from, values_from, word_count, writes_from}

-- ---- a run of stored words
module _ {A : Type 0} (d : A) where
  pub sets_before : (vs l : List A) (a j : ℕ) → j < a → get_or (sets l a vs) j d ≡ get_or l j d
  sets_before [] l a j h = refl
  sets_before (v ∷ vs) l a j h = sets_before vs (set l a v) (suc a) j (omega arith) ∙ get_or-set_other l a j v d (λ e. omega arith)

  pub sets_after : (vs l : List A) (a j : ℕ) → a + length vs ≤ j → get_or (sets l a vs) j d ≡ get_or l j d
  sets_after [] l a j h = refl
  sets_after (v ∷ vs) l a j h = sets_after vs (set l a v) (suc a) j (omega arith) ∙ get_or-set_other l a j v d (λ e. omega arith)

  pub sets_at : (vs l : List A) (a j : ℕ) → j < length vs → a + length vs ≤ length l → get_or (sets l a vs) (a + j) d ≡ get_or vs j d
  sets_at [] l a j h k = absurd (omega arith)
  sets_at (v ∷ vs) l a zero h k = rw (add-zero a) (sets_before vs (set l a v) (suc a) a (omega arith) ∙ get_or-set_same l a v d (omega arith))
  sets_at (v ∷ vs) l a (suc j) h k = rw (add-suc a j, ← suc-add a j) (sets_at vs (set l a v) (suc a) j (omega arith) (rw (length-set l a v) (omega arith)))

  pub tab-same : (f g : ℕ → A) (n : ℕ) → ((i : ℕ) → i < n → f i ≡ g i) → tab f n ≡ tab g n
  tab-same f g n h = is_tab g n d (tab f n) (length-tab f n) (λ i k. get_or-tab f n i d k ∙ h i k)

  -- a table with another value at one place
  pub tab-set : (f g : ℕ → A) (n i : ℕ) (x : A) → i < n → g i ≡ x → ((j : ℕ) → j < n → (j ≡ i → ⊥) → g j ≡ f j) → tab g n ≡ set (tab f n) i x
  tab-set f g n i x h same other =
      sym (is_tab g n d (set (tab f n) i x) (length-set (tab f n) i x ∙ length-tab f n) (λ j k. go j k (ℕ_discrete j i)))
    where
      go : (j : ℕ) → j < n → Dec (j ≡ i) → get_or (set (tab f n) i x) j d ≡ g j
      go j k (yes e) = rw (e, get_or-set_same (tab f n) i x d (omega (arith, length-tab f n))) (sym same)
      go j k (no e) = get_or-set_other (tab f n) i j x d e ∙ get_or-tab f n j d k ∙ sym (other j k e)

-- ---- the words of reads and writes
pub length-row : {A : Type 0} (f : A → List ℕ) (w : ℕ) → ((x : A) → length (f x) ≡ w) → (l : List A) → length (row_words f l) ≡ w * length l
unfolding row_words
length-row f w h [] = sym (mul-zero w)
length-row f w h (x ∷ xs) = let e = length-row f w h xs in let g = h x in let m = mul-suc w (length xs) in simp (length-append, g, e) (omega (arith, m))

pub mark_word : (l : List Mark) (i : ℕ) → mark_at (mark_words l) (3 * i) ≡ get_or l i no_mark
unfolding row_words
mark_word [] i = refl
mark_word (m ∷ ms) zero = refl
mark_word (m ∷ ms) (suc i) =
    let e0 : 3 * suc i ≡ suc (suc (suc (3 * i))) = omega arith in
    let e1 : suc (suc (suc (3 * i))) + 1 ≡ suc (suc (suc (3 * i + 1))) = omega arith in
    let e2 : suc (suc (suc (3 * i))) + 2 ≡ suc (suc (suc (3 * i + 2))) = omega arith in
    rw (e0, e1, e2) (mark_word ms i)

pub write-words : (l : List Write) (i : ℕ) → SFits w32 (get_or l i no_write).value → write_at (write_words l) (2 * i) ≡ get_or l i no_write
unfolding row_words
write-words [] i f = refl
write-words (w ∷ ws) zero f = rw (to_z-of_z f)
write-words (w ∷ ws) (suc i) f =
    let e0 : 2 * suc i ≡ suc (suc (2 * i)) = omega arith in
    let e1 : suc (suc (2 * i)) + 1 ≡ suc (suc (2 * i + 1)) = omega arith in
    rw (e0, e1) (write-words ws i f)

flag_back : (b : Bool) → not (eqb (bool_byte b) 0) ≡ b
flag_back true = refl
flag_back false = refl

-- ---- a transaction stored at a place
module _ (ws : List ℕ) (p : ℕ) (t : Transaction) where
  pub length-stored : length (stored ws p t) ≡ length ws
  unfolding stored
  length-stored =
      length-sets _ (base_of p + writes_from) (write_words t.writes)
      ∙ length-sets _ (base_of p + reads_from) (mark_words t.reads)
      ∙ length-sets ws (base_of p) (head_words t)

  -- the words before the place, and those behind it
  pub word_before : (j : ℕ) → j < base_of p → get_or (stored ws p t) j 0 ≡ get_or ws j 0
  unfolding stored
  word_before j h =
      sets_before 0 (write_words t.writes) _ (base_of p + writes_from) j (omega arith)
      ∙ sets_before 0 (mark_words t.reads) _ (base_of p + reads_from) j (omega arith)
      ∙ sets_before 0 (head_words t) ws (base_of p) j h

  module _ (g : Good t) where
    marks : length (mark_words t.reads) ≡ 48
    marks = omega (arith, length-row words_of_mark 3 (λ m. refl) t.reads, g.reads)

    values : length (write_words t.writes) ≡ 32
    values = omega (arith, length-row words_of_write 2 (λ m. refl) t.writes, g.writes)

    pub word_behind : (j : ℕ) → base_of p + place_words ≤ j → get_or (stored ws p t) j 0 ≡ get_or ws j 0
    unfolding stored
    word_behind j h =
        sets_after 0 (write_words t.writes) _ (base_of p + writes_from) j (omega (arith, values))
        ∙ sets_after 0 (mark_words t.reads) _ (base_of p + reads_from) j (omega (arith, marks))
        ∙ sets_after 0 (head_words t) ws (base_of p) j (omega arith)

    module _ (whole : length ws ≡ word_count) where
      room : (l : List ℕ) → length l ≡ length ws → base_of p + place_words ≤ length l
      room l e = omega arith

      head_word : (j : ℕ) → j < 7 → get_or (stored ws p t) (base_of p + j) 0 ≡ get_or (head_words t) j 0
      unfolding stored
      head_word j h =
          sets_before 0 (write_words t.writes) _ (base_of p + writes_from) (base_of p + j) (omega arith)
          ∙ sets_before 0 (mark_words t.reads) _ (base_of p + reads_from) (base_of p + j) (omega arith)
          ∙ sets_at 0 (head_words t) ws (base_of p) j h (omega arith)

      read_word : (j : ℕ) → j < 48 → get_or (stored ws p t) (base_of p + reads_from + j) 0 ≡ get_or (mark_words t.reads) j 0
      unfolding stored
      read_word j h =
          sets_before 0 (write_words t.writes) _ (base_of p + writes_from) (base_of p + reads_from + j) (omega arith)
          ∙ sets_at 0 (mark_words t.reads) (sets ws (base_of p) (head_words t)) (base_of p + reads_from) j (omega (arith, marks)) (omega (arith, marks, length-sets ws (base_of p) (head_words t)))

      write_word : (j : ℕ) → j < 32 → get_or (stored ws p t) (base_of p + writes_from + j) 0 ≡ get_or (write_words t.writes) j 0
      unfolding stored
      write_word j h =
          let u : List ℕ = sets (sets ws (base_of p) (head_words t)) (base_of p + reads_from) (mark_words t.reads) in
          let e : length u ≡ word_count = length-sets _ (base_of p + reads_from) (mark_words t.reads) ∙ length-sets ws (base_of p) (head_words t) ∙ whole in
          sets_at 0 (write_words t.writes) u (base_of p + writes_from) j (omega (arith, values)) (omega (arith, values))

      read_back : (i : ℕ) → i < 16 → mark_at (stored ws p t) (base_of p + reads_from + 3 * i) ≡ get_or t.reads i no_mark
      read_back i h =
          let b : ℕ = base_of p + reads_from in
          let e1 : b + 3 * i + 1 ≡ b + (3 * i + 1) = omega arith in
          let e2 : b + 3 * i + 2 ≡ b + (3 * i + 2) = omega arith in
          rw (e1, e2, read_word (3 * i) (omega arith), read_word (3 * i + 1) (omega arith), read_word (3 * i + 2) (omega arith)) (mark_word t.reads i)

      write_back : (i : ℕ) → i < 16 → write_at (stored ws p t) (base_of p + writes_from + 2 * i) ≡ get_or t.writes i no_write
      write_back i h =
          let b : ℕ = base_of p + writes_from in
          let e1 : b + 2 * i + 1 ≡ b + (2 * i + 1) = omega arith in
          rw (e1, write_word (2 * i) (omega arith), write_word (2 * i + 1) (omega arith)) (write-words t.writes i (g.values i))

      -- what was stored is loaded
      pub load_same : loaded (stored ws p t) p ≡ t
      unfolding loaded
      load_same =
          let name : get_or (stored ws p t) (base_of p) 0 ≡ t.name.0 = rw (← add-zero (base_of p)) (head_word 0 (omega arith)) in
          let reads : tab (λ (i : ℕ). mark_at (stored ws p t) (base_of p + reads_from + 3 * i)) 16 ≡ t.reads = sym (is_tab _ 16 no_mark t.reads g.reads (λ i h. sym (read_back i h))) in
          let writes : tab (λ (i : ℕ). write_at (stored ws p t) (base_of p + writes_from + 2 * i)) 16 ≡ t.writes = sym (is_tab _ 16 no_write t.writes g.writes (λ i h. sym (write_back i h))) in
          rw
          (name, reads, writes, head_word 1 (omega arith), head_word 2 (omega arith), head_word 3 (omega arith), head_word 4 (omega arith), head_word 5 (omega arith), head_word 6 (omega arith), flag_back t.live, mod-eq_of_lt g.k1, mod-eq_of_lt g.k2, mod-eq_of_lt g.k3)

-- what is loaded depends on the place's own words
pub load_frame : (ws us : List ℕ) (q : ℕ) → ((j : ℕ) → base_of q ≤ j → j < base_of q + place_words → get_or us j 0 ≡ get_or ws j 0) → loaded us q ≡ loaded ws q
unfolding loaded
load_frame ws us q h =
    let reads : tab (λ (i : ℕ). mark_at us (base_of q + reads_from + 3 * i)) 16 ≡ tab (λ (i : ℕ). mark_at ws (base_of q + reads_from + 3 * i)) 16 = tab-same no_mark _ _ 16 (λ i k. rw (h (base_of q + reads_from + 3 * i) (omega arith) (omega arith), h (base_of q + reads_from + 3 * i + 1) (omega arith) (omega arith), h (base_of q + reads_from + 3 * i + 2) (omega arith) (omega arith))) in
    let writes : tab (λ (i : ℕ). write_at us (base_of q + writes_from + 2 * i)) 16 ≡ tab (λ (i : ℕ). write_at ws (base_of q + writes_from + 2 * i)) 16 = tab-same no_write _ _ 16 (λ i k. rw (h (base_of q + writes_from + 2 * i) (omega arith) (omega arith), h (base_of q + writes_from + 2 * i + 1) (omega arith) (omega arith))) in
    rw
    (reads, writes, h (base_of q) (omega arith) (omega arith), h (base_of q + live_at) (omega arith) (omega arith), h (base_of q + 2) (omega arith) (omega arith), h (base_of q + 3) (omega arith) (omega arith), h (base_of q + 4) (omega arith) (omega arith), h (base_of q + 5) (omega arith) (omega arith), h (base_of q + 6) (omega arith) (omega arith))

-- and so does the log on its own
pub log_frame : (ws us : List ℕ) (n : ℕ) → n ≤ 4096 → ((j : ℕ) → 2 ≤ j → j < desk_from → get_or us j 0 ≡ get_or ws j 0) → entries us n ≡ entries ws n
unfolding entries
log_frame ws us zero k h = refl
log_frame ws us (suc n) k h =
    rw
    (h (keys_from + n) (omega arith) (omega arith), h (ordinals_from + n) (omega arith) (omega arith), h (stamps_from + n) (omega arith) (omega arith), h (values_from + n) (omega arith) (omega arith), log_frame ws us n (omega arith) h)

pub good_loaded : (ws : List ℕ) (p : ℕ) → Good (loaded ws p)
unfolding loaded
good_loaded ws p =
    record {
      reads = length-tab _ 16;
      writes = length-tab _ 16;
      k1 = mod-lt _ (omega arith);
      k2 = mod-lt _ (omega arith);
      k3 = mod-lt _ (omega arith);
      values = λ i. go i (dec_lt i 16);
    }
  where
    go : (i : ℕ) → Dec (i < 16) → SFits w32 (get_or (tab (λ (i : ℕ). write_at ws (base_of p + writes_from + 2 * i)) 16) i no_write).value
    go i (yes h) = rw (get_or-tab (λ (i : ℕ). write_at ws (base_of p + writes_from + 2 * i)) 16 i no_write h) (value-fits (get_or ws (base_of p + writes_from + 2 * i + 1) 0))
    go i (no h) =
        let past : length (tab (λ (i : ℕ). write_at ws (base_of p + writes_from + 2 * i)) 16) ≤ i = omega (arith, length-tab (λ (i : ℕ). write_at ws (base_of p + writes_from + 2 * i)) 16) in
        rw (get_or-eq_default (tab (λ (i : ℕ). write_at ws (base_of p + writes_from + 2 * i)) 16) no_write past) (record { sfits = omega arith })

module _ (ws : List ℕ) (whole : length ws ≡ word_count) (p : ℕ) (below : p < 32) (t : Transaction) (g : Good t) where
  pub load-other : (q : ℕ) → q < 32 → (q ≡ p → ⊥) → loaded (stored ws p t) q ≡ loaded ws q
  load-other q h e = load_frame ws (stored ws p t) q (λ j l k. go j l k (dec_lt q p))
    where
      go : (j : ℕ) → base_of q ≤ j → j < base_of q + place_words → Dec (q < p) → get_or (stored ws p t) j 0 ≡ get_or ws j 0
      go j l k (yes s) = word_before ws p t j (omega arith)
      go j l k (no s) = word_behind ws p t g j (omega arith)

  pub places_stored : places_of (stored ws p t) ≡ set (places_of ws) p t
  unfolding places_of
  places_stored = tab-set no_transaction (loaded ws) (loaded (stored ws p t)) 32 p t below (load_same ws p t g whole) load-other

  pub log-stored : log_of (stored ws p t) ≡ log_of ws
  log-stored = rw (word_before ws p t 1 (omega arith)) (log_frame ws (stored ws p t) (length_of ws) (omega arith) (λ j l h. word_before ws p t j (omega arith)))

  -- one transaction of the state is another, and the rest stays
  pub state-stored : state_of (stored ws p t) ≡ record { clock = get_or ws clock_at 0; log = log_of ws; place = set (places_of ws) p t }
  state-stored =
      rw
      (places_stored, log-stored, word_before ws p t 0 (omega arith))

-- ---- the desk of the state
module _ (ws : List ℕ) where
  pub places_length : length (places_of ws) ≡ 32
  unfolding places_of
  places_length = length-tab (loaded ws) 32

  pub places_at : (i : ℕ) → i < 32 → get_or (places_of ws) i no_transaction ≡ loaded ws i
  unfolding places_of
  places_at i h = get_or-tab (loaded ws) 32 i no_transaction h

-- another clock, and the rest stays
pub state-clock : (us : List ℕ) (x : ℕ) → 0 < length us → state_of (set us 0 x) ≡ record { clock = x; log = log_of us; place = places_of us }
unfolding places_of
state-clock us x h =
    let places : tab (loaded (set us 0 x)) 32 ≡ tab (loaded us) 32 = tab-same no_transaction _ _ 32 (λ q k. load_frame us (set us 0 x) q (λ j l m. get_or-set_other us 0 j x 0 (λ e. omega arith))) in
    rw
    (places, get_or-set_same us 0 x 0 h, get_or-set_other us 0 1 x 0 (λ e. omega arith), log_frame us (set us 0 x) (length_of us) (omega arith) (λ j l m. get_or-set_other us 0 j x 0 (λ e. omega arith)))

-- ---- transactions that their words can say
pub good_fresh : (n : ℕ) → Good (fresh n)
good_fresh n = record { reads = refl; writes = refl; k1 = omega arith; k2 = omega arith; k3 = omega arith; values = λ i. go i (dec_lt i 16) }
  where
    go : (i : ℕ) → Dec (i < 16) → SFits w32 (get_or (replicate 16 no_write) i no_write).value
    go i (yes h) = rw (get_or-replicate 16 i no_write no_write h) (record { sfits = omega arith })
    go i (no h) =
        let past : length (replicate 16 no_write) ≤ i = omega (arith, length-replicate 16 no_write) in
        rw (get_or-eq_default (replicate 16 no_write) no_write past) (record { sfits = omega arith })

pub good_written : (t : Transaction) (k : ℕ) (v : ℤ) → Good t → SFits w32 v → Good (written t k v)
unfolding written
good_written t k v g f = go (ltb (wrote_at t k) 16) refl
  where
    put : (i : ℕ) → wrote_at t k < 16 → Dec (i ≡ wrote_at t k) → SFits w32 (get_or (set t.writes (wrote_at t k) (record { key = k; value = v })) i no_write).value
    put i h (yes e) = rw (e, get_or-set_same t.writes (wrote_at t k) (record { key = k; value = v }) no_write (omega (arith, g.writes))) f
    put i h (no e) = rw (get_or-set_other t.writes (wrote_at t k) i (record { key = k; value = v }) no_write e) (g.values i)

    go : (b : Bool) → ltb (wrote_at t k) 16 ≡ b
        → Good (cond b (record { name = t.name; live = t.live; bounds = t.bounds; reads = t.reads; recorded = t.recorded; writes = set t.writes (wrote_at t k) (record { key = k; value = v }); written = max t.written (wrote_at t k + 1) }) t)
    go true e =
        record {
          reads = g.reads;
          writes = length-set t.writes (wrote_at t k) (record { key = k; value = v }) ∙ g.writes;
          k1 = g.k1;
          k2 = g.k2;
          k3 = g.k3;
          values = λ i. put i (ltb-true (wrote_at t k) 16 e) (ℕ_discrete i (wrote_at t k));
        }
    go false e = g

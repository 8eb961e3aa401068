-- What a transaction's steps keep of it: its arrays, its recorded reads, its written keys.
use Prim.Native.Nat.{ℕ, suc, ◌+◌, ◌≤◌, ◌<◌, max}
use native.Mathlib.Omega.{arith}
use native.Mathlib.Numerals.{add-one}
use mathlib.Core.Path.{◌≡◌, refl, sym, ◌∙◌, ap, subst}
use mathlib.Core.Logic.{◌≢◌}
use mathlib.Core.Bool.{Bool, true, false, false≢true}
use mathlib.Core.List.{List, [], ◌∷◌, ◌++◌}
use lib.Dec.{ltb}
use lib.IntN.{ℤ}
use lib.ListN.{length, get_or, take, set, length-set, length-take}
use lib.Seq.{take-suc-set, take-set-lt, map-set_same}
use borrow.Author.Tests.{lt-ltb, ltb-true, ltb-false, eqb-true, eqb-false}
use Rattle.lists.specs.Lists.{Every, none, also}
use Rattle.lists.specs.Members.{In, Distinct, empty}
use Rattle.lists.proofs.Find.{find_le, find-holds}
use Rattle.lists.proofs.Every.{every_map, every_append, none_found}
use Rattle.lists.proofs.Members.{every_in, in_every, distinct_snoc}
use Rattle.units.specs.declared.Bounds.{Bounds}
use Rattle.transaction.specs.declared.Mark.{Mark}
use Rattle.transaction.specs.declared.Write.{Write}
use Rattle.transaction.specs.declared.Transaction.{Transaction}
use Rattle.transaction.specs.Transaction.{fresh, tuned, ended, recorded, written, wrote_at, is_key, writes_of, no_write}
use Rattle.model.specs.Log.{Entry}
use Rattle.model.specs.Reached.{Writes, keys_of, Recorded, Seated}
use Rattle.model.specs.Changes.{Puts, again, anew, Records, Rewrites}
use Rattle.model.proofs.Stands.{stands-more}

no_writes : Writes []
no_writes = record { few = omega arith; keys = none; once = empty }

abbrev wrote : ℕ → ℤ → Write
wrote k v = record { key = k; value = v }

keys_snoc : (ws : List Write) (w : Write) → keys_of (ws ++ (w ∷ [])) ≡ keys_of ws ++ (w.key ∷ [])
keys_snoc [] w = refl
keys_snoc (x ∷ ws) w = ap (λ (ks : List ℕ). x.key ∷ ks) (keys_snoc ws w)

pub keys-other : (k : ℕ) {ws : List Write} → Every (λ (w : Write). is_key k w ≡ false) ws → Every (λ (y : ℕ). y ≢ k) (keys_of ws)
keys-other k none = none
keys-other k (also {x = w} h hs) = also (eqb-false w.key k h) (keys-other k hs)

-- a key written again is the same key
again-keys : (k : ℕ) (v : ℤ) (ws : List Write) (i : ℕ) → (get_or ws i no_write).key ≡ k → keys_of (set ws i (wrote k v)) ≡ keys_of ws
again-keys k v ws i e = map-set_same (λ (w : Write). w.key) ws i (wrote k v) no_write (sym e)

-- what is written keeps the keys within their range, each once
module _ {k : ℕ} {v : ℤ} {ws : List Write} where
  keys-put : {us : List Write} → Puts k v ws us → k ≤ 63 → Every (λ (y : ℕ). y ≤ 63) (keys_of ws) → Every (λ (y : ℕ). y ≤ 63) (keys_of us)
  keys-put (again i h e) l w = rw (again-keys k v ws i e) w
  keys-put (anew n) l w = rw (keys_snoc ws (wrote k v)) (every_append w (also l none))

  once-put : {us : List Write} → Puts k v ws us → Distinct (keys_of ws) → Distinct (keys_of us)
  once-put (again i h e) w = rw (again-keys k v ws i e) w
  once-put (anew n) w = rw (keys_snoc ws (wrote k v)) (distinct_snoc k w (in_every (λ (y : ℕ). y ≢ k) (keys_of ws) (λ y i e. n (subst (λ (x : ℕ). In x (keys_of ws)) e i))))

module _ {opening clock : ℕ} {log : List Entry} where
  -- a later clock, and a log that has grown, take nothing away
  pub seated-more : {later : ℕ} {grown : List Entry} → clock ≤ later → ((e : Entry) → In e log → In e grown) → (t : Transaction) → Seated opening clock log t → Seated opening later grown t
  seated-more h f t s =
      record {
        marks = s.marks;
        pending = s.pending;
        recorded = s.recorded;
        written = s.written;
        bound = s.bound;
        underway = λ l. let u = s.underway l in
            record { after = u.after; started = omega arith; reads = every_map (λ (x : Mark) r. record { key = r.key; stands = stands-more f r.stands }) u.reads; writes = u.writes };
      }

  pub seated-fresh : (n : ℕ) → opening < n → n ≤ clock → Seated opening clock log (fresh n)
  seated-fresh n a b =
      record {
        marks = refl;
        pending = refl;
        recorded = omega arith;
        written = omega arith;
        bound = omega arith;
        underway = λ l. record { after = a; started = b; reads = none; writes = no_writes };
      }

  pub seated-ended : (t : Transaction) → Seated opening clock log t → Seated opening clock log (ended t)
  seated-ended t s =
      record { marks = s.marks; pending = s.pending; recorded = s.recorded; written = s.written; bound = s.bound; underway = λ l. absurd (false≢true l) }

  pub seated-tuned : (t : Transaction) (b : Bounds) → 1 ≤ b.k1 → Seated opening clock log t → Seated opening clock log (tuned t b)
  seated-tuned t b h s =
      record {
        marks = s.marks;
        pending = s.pending;
        recorded = s.recorded;
        written = s.written;
        bound = h;
        underway = λ l. let u = s.underway l in record { after = u.after; started = u.started; reads = u.reads; writes = u.writes };
      }

  -- "Two reads of one key are two records"
  pub recorded-records : (t : Transaction) (m : Mark) → t.recorded < 16 → Seated opening clock log t → Records m t (recorded t m)
  unfolding recorded
  recorded-records t m h s =
      rw (lt-ltb t.recorded 16 h) (record {
        reads = rw (add-one t.recorded, take-suc-set t.reads t.recorded m (rw s.marks h));
        writes = refl;
        rest = record { name = refl; live = refl; bounds = refl };
      })

  pub seated-recorded : (t : Transaction) (m : Mark) → t.recorded < 16 → Recorded log m → Seated opening clock log t → Seated opening clock log (recorded t m)
  unfolding recorded
  seated-recorded t m h r s =
      rw (lt-ltb t.recorded 16 h) (record {
        marks = length-set t.reads t.recorded m ∙ s.marks;
        pending = s.pending;
        recorded = omega arith;
        written = s.written;
        bound = s.bound;
        underway = λ l. let u = s.underway l in
            record {
              after = u.after;
              started = u.started;
              reads = rw (add-one t.recorded, take-suc-set t.reads t.recorded m (rw s.marks h)) (every_append u.reads (also r none));
              writes = u.writes;
            };
      })

module _ (t : Transaction) (k : ℕ) (v : ℤ) (sized : length t.writes ≡ 16) (few : t.written ≤ 16) (fits : wrote_at t k < 16) where
  counted : length (writes_of t) ≡ t.written
  counted = length-take t.written t.writes ∙ rw sized (omega arith)

  abbrev after : List Write
  after = take (max t.written (wrote_at t k + 1)) (set t.writes (wrote_at t k) (wrote k v))

  -- "A second write of a key replaces the value and takes no new place"
  puts_after : Puts k v (writes_of t) after
  unfolding wrote_at
  puts_after = go (ltb (wrote_at t k) t.written) refl
    where
      over : wrote_at t k < t.written → Puts k v (writes_of t) after
      over h =
          let a : max t.written (wrote_at t k + 1) ≡ t.written = omega arith in
          let b : wrote_at t k < length (writes_of t) = rw counted h in
          rw (a, take-set-lt t.written t.writes (wrote_at t k) (wrote k v) h)
          (again (wrote_at t k) b (eqb-true (get_or (writes_of t) (wrote_at t k) no_write).key k (find-holds (is_key k) (writes_of t) no_write b)))

      behind : wrote_at t k ≡ t.written → Puts k v (writes_of t) after
      behind e =
          let a : max t.written (t.written + 1) ≡ suc t.written = omega arith in
          let b : t.written < length t.writes = rw sized (omega arith) in
          let c : length (writes_of t) ≤ wrote_at t k = rw (counted, e) (omega arith) in
          rw (e, a, take-suc-set t.writes t.written (wrote k v) b)
          (anew (λ i. every_in (keys-other k (none_found (is_key k) (writes_of t) c)) i refl))

      go : (b : Bool) → ltb (wrote_at t k) t.written ≡ b → Puts k v (writes_of t) after
      go true h = over (ltb-true _ _ h)
      go false h = let p = find_le (is_key k) (writes_of t) in let q : t.written ≤ wrote_at t k = ltb-false _ _ h in behind (omega (arith, counted))

  writes-written : k ≤ 63 → Writes (writes_of t) → Writes after
  writes-written l w =
      record {
        few = rw (length-take (max t.written (wrote_at t k + 1)) (set t.writes (wrote_at t k) (wrote k v)), length-set t.writes (wrote_at t k) (wrote k v), sized) (omega arith);
        keys = keys-put puts_after l w.keys;
        once = once-put puts_after w.once;
      }

  pub written_rewrites : Rewrites k v t (written t k v)
  unfolding written
  written_rewrites = rw (lt-ltb (wrote_at t k) 16 fits) (record { reads = refl; writes = puts_after; rest = record { name = refl; live = refl; bounds = refl } })

  pub seated-written : {opening clock : ℕ} {log : List Entry} → k ≤ 63 → Seated opening clock log t → Seated opening clock log (written t k v)
  unfolding written
  seated-written l s =
      rw (lt-ltb (wrote_at t k) 16 fits) (record {
        marks = s.marks;
        pending = length-set t.writes (wrote_at t k) (wrote k v) ∙ s.pending;
        recorded = s.recorded;
        written = omega arith;
        bound = s.bound;
        underway = λ h. let u = s.underway h in record { after = u.after; started = u.started; reads = u.reads; writes = writes-written l u.writes };
      })

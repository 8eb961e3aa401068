-- What each call of the master decides and changes, from what the calls below it say.
use Prim.Native.Nat.{ℕ, ◌+◌, ◌-◌, ◌≤◌, ◌<◌, min}
use native.Mathlib.Omega.{arith}
use native.Mathlib.Numerals.{add-one}
use mathlib.Core.Path.{◌≡◌, refl, sym, ◌∙◌, ap}
use mathlib.Core.Bool.{Bool, true, false, cond}
use mathlib.Core.List.{List}
use borrow.Author.Tests.{le-leb, lt-leb, lt-ltb, le-ltb, eq-eqb, ne_eqb, ltb-true, leb-false}
use lib.Dec.{leb, ltb}
use Rattle.std.proofs.lemmas.List.{get_or_default}
use lib.IntN.{ℤ}
use lib.ListN.{length, get_or, set, take, length-take}
use Rattle.std.specs.Prelude.{Option, Some, None, Ok, Err, SomeIff, IfSome, is_some}
use Rattle.std.specs.Option.{ok_or}
use Rattle.units.specs.declared.Version.{Version}
use Rattle.units.specs.Refusal.{number_of}
use Rattle.units.specs.declared.refusal.Refusal.{Refusal}
use Rattle.units.specs.declared.refusal.Refusal.TheVariants.{ClockSpent, NoTransaction}
use Rattle.units.specs.declared.rule.Rule.{Rule}
use Rattle.transaction.specs.declared.Transaction.{Transaction}
use Rattle.transaction.specs.Transaction.{recorded, pending_of, reads_of, writes_of, no_mark}
use Rattle.model.specs.Log.{Entry, newest, look_up, made_at}
use Rattle.model.specs.Rules.{distance, certified}
use Rattle.model.specs.Step.{step, checks_of, final_of, order, marked}
use Rattle.model.specs.Call.{Read, Note, Distance, Commit, Message, Newest, refused, version, own, apart_by, committed, aborted, made, made_by}
use Rattle.units.specs.declared.Batch.{Batch}
use Rattle.transaction.specs.declared.Mark.{Mark}
use Rattle.versions.specs.Batch.{batch_of}
use Rattle.versions.proofs.Gathering.{count_of_batch}
use Rattle.memory.specs.Memory.{loaded, stored, length_of, log_of, state_of}
use Rattle.memory.proofs.Laws.{places_at}
use Rattle.words.specs.Installed.{installed}
use Rattle.words.proofs.Installing.{length-log}
use Rattle.words.specs.After.{at, closed, change, after}
use Rattle.desk.proofs.Laws.{refused-stays}

-- ---- what is decided
module _ (ws : List ℕ) (n : ℕ) where
  pub read-nobody : (k : ℕ) → 32 ≤ at ws n → refused 1 ≡ (step (state_of ws) (Read n k)).reply
  unfolding step checks_of final_of order
  read-nobody k h = rw (le-leb _ _ h)

  pub note-nobody : (k o : ℕ) → 32 ≤ at ws n → refused 1 ≡ (step (state_of ws) (Note n k o)).reply
  unfolding step checks_of final_of order
  note-nobody k o h = rw (le-leb _ _ h)

  pub distance-nobody : (p : ℕ) → 32 ≤ at ws n → refused 1 ≡ (step (state_of ws) (Distance n p)).reply
  unfolding step checks_of final_of order
  distance-nobody p h = rw (le-leb _ _ h)

  pub commit-nobody : 32 ≤ at ws n → refused 1 ≡ (step (state_of ws) (Commit n)).reply
  unfolding step checks_of final_of order
  commit-nobody h = rw (le-leb _ _ h)

  module _ (live : at ws n < 32) where
    abbrev t : Transaction
    t = loaded ws (at ws n)

    pub read_no_key : (k : ℕ) → 63 < k → refused 2 ≡ (step (state_of ws) (Read n k)).reply
    unfolding step checks_of final_of order
    read_no_key k h = rw (lt-leb 32 _ live, lt-ltb 63 _ h)

    pub read-own : (k : ℕ) (v : ℤ) → k ≤ 63 → pending_of t k ≡ Some v → own v ≡ (step (state_of ws) (Read n k)).reply
    unfolding step checks_of final_of order
    read-own k v h p = rw (lt-leb 32 _ live, le-ltb 63 _ h, places_at ws (at ws n) live, p)

    pub read-full : (k : ℕ) → k ≤ 63 → pending_of t k ≡ None → leb 16 t.recorded ≡ true → refused 4 ≡ (step (state_of ws) (Read n k)).reply
    unfolding step checks_of final_of order
    read-full k h p f = rw (lt-leb 32 _ live, le-ltb 63 _ h, places_at ws (at ws n) live, p, f)

    pub read_goes : (k : ℕ) → k ≤ 63 → pending_of t k ≡ None → leb 16 t.recorded ≡ false → version (newest (log_of ws) k) ≡ (step (state_of ws) (Read n k)).reply
    unfolding step checks_of final_of order
    read_goes k h p f = rw (lt-leb 32 _ live, le-ltb 63 _ h, places_at ws (at ws n) live, p, f)

    module _ (k o : ℕ) where
      pub note_no_key : 63 < k → refused 2 ≡ (step (state_of ws) (Note n k o)).reply
      unfolding step checks_of final_of order
      note_no_key h = rw (lt-leb 32 _ live, lt-ltb 63 _ h)

      module _ (h : k ≤ 63) where
        pub note-written : (v : ℤ) → pending_of t k ≡ Some v → refused 8 ≡ (step (state_of ws) (Note n k o)).reply
        unfolding step checks_of final_of order
        note-written v p = rw (lt-leb 32 _ live, le-ltb 63 _ h, places_at ws (at ws n) live, p)

        pub note_absent : pending_of t k ≡ None → look_up (log_of ws) k o ≡ None → refused 7 ≡ (step (state_of ws) (Note n k o)).reply
        unfolding step checks_of final_of order
        note_absent p q = rw (lt-leb 32 _ live, le-ltb 63 _ h, places_at ws (at ws n) live, p, q)

        module _ (v : Version) (p : pending_of t k ≡ None) (q : look_up (log_of ws) k o ≡ Some v) where
          pub note-full : leb 16 t.recorded ≡ true → refused 4 ≡ (step (state_of ws) (Note n k o)).reply
          unfolding step checks_of final_of order
          note-full f = rw (lt-leb 32 _ live, le-ltb 63 _ h, places_at ws (at ws n) live, p, q, f)

          pub note_goes : leb 16 t.recorded ≡ false → version v ≡ (step (state_of ws) (Note n k o)).reply
          unfolding step checks_of final_of order
          note_goes f = rw (lt-leb 32 _ live, le-ltb 63 _ h, places_at ws (at ws n) live, p, q, f)

    module _ (p : ℕ) where
      pub distance_none : length (reads_of t) ≤ p → refused 9 ≡ (step (state_of ws) (Distance n p)).reply
      unfolding step checks_of final_of order
      distance_none h = rw (lt-leb 32 _ live, places_at ws (at ws n) live, le-leb _ _ h)

      pub distance_goes : p < length (reads_of t) → apart_by (distance (log_of ws) t.name.0 (get_or (reads_of t) p no_mark)) ≡ (step (state_of ws) (Distance n p)).reply
      unfolding step checks_of final_of order
      distance_goes h = rw (lt-leb 32 _ live, places_at ws (at ws n) live, lt-leb (length (reads_of t)) p h)

    pub commit-aborts : (r : Rule) → certified (log_of ws) t ≡ Err r → aborted r ≡ (step (state_of ws) (Commit n)).reply
    unfolding step checks_of final_of order
    commit-aborts r e = rw (lt-leb 32 _ live, places_at ws (at ws n) live, e)

    module _ (kept : certified (log_of ws) t ≡ Ok tt) where
      size : length (log_of ws) ≡ length_of ws
      size = length-log ws (length_of ws)

      pub commit-full : 4096 - length_of ws < length (writes_of t) → refused 6 ≡ (step (state_of ws) (Commit n)).reply
      unfolding step checks_of final_of order
      commit-full h = rw (lt-leb 32 _ live, places_at ws (at ws n) live, kept, size, lt-ltb 4096 (length_of ws + length (writes_of t)) (omega arith))

      -- the clock's next stamp, or 5 where there is none
      module _ (room : length (writes_of t) ≤ 4096 - length_of ws) (next : Option ℕ) (counts : SomeIff next (get_or ws 0 0 + 1 < 4294967296) (get_or ws 0 0 + 1)) where
        pub commit-spent : get_or ws 0 0 < 4294967296 → (f : Refusal) → Err f ≡ ok_or next ClockSpent → refused (number_of f) ≡ (step (state_of ws) (Commit n)).reply
        unfolding step checks_of final_of order
        commit-spent h f e = go next counts e
          where
            go : (o : Option ℕ) → SomeIff o (get_or ws 0 0 + 1 < 4294967296) (get_or ws 0 0 + 1) → Err f ≡ ok_or o ClockSpent → refused (number_of f) ≡ (step (state_of ws) (Commit n)).reply
            go None k e =
                let spent : get_or ws 0 0 ≡ 4294967295 = omega arith in
                let five : f ≡ ClockSpent = cc in
                rw (five, lt-leb 32 _ live, places_at ws (at ws n) live, kept, size, le-ltb 4096 (length_of ws + length (writes_of t)) (omega arith), eq-eqb _ _ spent)
            go (Some m) k e = absurd (cc)

        pub commit_goes : (m : ℕ) → Ok m ≡ ok_or next ClockSpent → committed m ≡ (step (state_of ws) (Commit n)).reply
        unfolding step checks_of final_of order
        commit_goes m e = go next counts e
          where
            go : (o : Option ℕ) → SomeIff o (get_or ws 0 0 + 1 < 4294967296) (get_or ws 0 0 + 1) → Ok m ≡ ok_or o ClockSpent → committed m ≡ (step (state_of ws) (Commit n)).reply
            go None k e = absurd (cc)
            go (Some x) k e =
                let is : m ≡ x = cc in
                let more : (get_or ws 0 0 ≡ 4294967295 → ⊥) = (λ z. absurd (omega arith)) in
                rw (is, k.1, lt-leb 32 _ live, places_at ws (at ws n) live, kept, size, le-ltb 4096 (length_of ws + length (writes_of t)) (omega arith), ne_eqb _ _ more, add-one)

-- ---- what is changed
module _ (ws us : List ℕ) (n p : ℕ) (e : p ≡ at ws n) where
  pub read-after : (k : ℕ) (v : Version) → version v ≡ (step (state_of ws) (Read n k)).reply → us ≡ stored ws p (recorded (loaded ws p) (marked k v)) → us ≡ after ws (Read n k)
  unfolding change
  read-after k v r g = g ∙ rw (← r, e)

  pub note-after : (k o : ℕ) (v : Version) → version v ≡ (step (state_of ws) (Note n k o)).reply → us ≡ stored ws p (recorded (loaded ws p) (marked k v)) → us ≡ after ws (Note n k o)
  unfolding change
  note-after k o v r g = g ∙ rw (← r, e)

  pub commit-after : (s : ℕ) → committed s ≡ (step (state_of ws) (Commit n)).reply → us ≡ set (closed (installed ws s (writes_of (loaded ws p))) p) 0 s → us ≡ after ws (Commit n)
  unfolding change
  commit-after s r g = g ∙ rw (← r, e)

  pub abort-after : (q : Rule) → aborted q ≡ (step (state_of ws) (Commit n)).reply → us ≡ closed ws p → us ≡ after ws (Commit n)
  unfolding change
  abort-after q r g = g ∙ rw (← r, e)

module _ (ws : List ℕ) (n : ℕ) where
  pub own-stays : (k : ℕ) (v : ℤ) → own v ≡ (step (state_of ws) (Read n k)).reply → ws ≡ after ws (Read n k)
  unfolding change
  own-stays k v e = rw (← e)

  -- a note answers no own value
  pub no_own : (k o : ℕ) (v : ℤ) → own v ≡ (step (state_of ws) (Note n k o)).reply → ws ≡ after ws (Note n k o)
  unfolding change
  no_own k o v e = rw (← e)

-- ---- the calls that only look at the log
module _ (es : List Entry) (b : Batch) (e : b ≡ batch_of es) where
  few : b.count ≡ min 16 (length es)
  few = ap (λ (x : Batch). x.count) e ∙ count_of_batch es ∙ length-take 16 es

  none_made : b.count ≡ 0 → length es ≡ 0
  none_made h = omega (arith, few)

  some-made : (b.count ≡ 0 → ⊥) → length es ≡ 0 → ⊥
  some-made h z = h (omega (arith, few))

module _ (ws : List ℕ) where
  module _ (t : ℕ) (b : Batch) (e : b ≡ batch_of (made_at (log_of ws) t)) where
    pub made_none : b.count ≡ 0 → refused 18 ≡ (step (state_of ws) (Message t)).reply
    unfolding step checks_of final_of order
    made_none h = rw (eq-eqb (length (made_at (log_of ws) t)) 0 (none_made (made_at (log_of ws) t) b e h))

    pub made_some : (b.count ≡ 0 → ⊥) → made (take 16 (made_at (log_of ws) t)) ≡ (step (state_of ws) (Message t)).reply
    unfolding step checks_of final_of order
    made_some h = rw (ne_eqb (length (made_at (log_of ws) t)) 0 (some-made (made_at (log_of ws) t) b e h))

  pub newest_no_key : (k : ℕ) → 63 < k → refused 2 ≡ (step (state_of ws) (Newest k)).reply
  unfolding step checks_of final_of order
  newest_no_key k h = rw (lt-ltb 63 _ h)

  pub newest_goes : (k : ℕ) (v : Version) → k ≤ 63 → v ≡ newest (log_of ws) k → made_by v.stamp.0 ≡ (step (state_of ws) (Newest k)).reply
  unfolding step checks_of final_of order
  newest_goes k v h e = rw (le-ltb 63 _ h, e)

-- the read at a place, from what the look-up of it answers
pub looked_up : {R : Type 0} (now : R → Mark) (l : List Mark) (p : ℕ) (o : Option R) (r : R) (f : Refusal) → is_some o ≡ ltb p (length l) → IfSome o (λ x. now x ≡ get_or l p (now x))
    → Ok r ≡ ok_or o f → (p < length l) × (now r ≡ get_or l p no_mark)
looked_up now l p None r f e h k = absurd (cc)
looked_up now l p (Some x) r f e h k = let is : r ≡ x = cc in let b : p < length l = ltb-true p (length l) (sym e) in (b, rw is (h ∙ get_or_default l p (now x) no_mark b))

-- the transaction at a place that was opened
pub distance-of : (ws : List ℕ) (n i p : ℕ) (t : Transaction) (x : Mark) (d : ℤ) → i ≡ at ws n → Ok t ≡ cond (leb 32 i) (Err NoTransaction) (Ok (loaded ws i)) → p < length (reads_of t)
    → x ≡ get_or (reads_of t) p no_mark → d ≡ distance (log_of ws) t.name.0 x → apart_by d ≡ (step (state_of ws) (Distance n p)).reply
distance-of ws n i p t x d e o h y z = go (leb 32 i) refl o
  where
    go : (b : Bool) → leb 32 i ≡ b → Ok t ≡ cond b (Err NoTransaction) (Ok (loaded ws i)) → apart_by d ≡ (step (state_of ws) (Distance n p)).reply
    go true k o = absurd (cc)
    go false k o =
        let same : t ≡ loaded ws (at ws n) = cc in
        let live : at ws n < 32 = rw e at (leb-false 32 i k) in
        ap apart_by (z ∙ ap (distance (log_of ws) t.name.0) y ∙ rw same) ∙ distance_goes ws n live p (rw same at h)

-- what the check finds the calls' answers by
pub ruleset decided = (read-nobody, read_no_key, read-own, read-full, read_goes, note-nobody, note_no_key, note-written, note_absent, note-full, note_goes, distance-nobody, distance_none, distance_goes, commit-nobody, commit-aborts, commit-full, commit-spent, commit_goes)

pub ruleset answered = (made_none, made_some, newest_no_key, newest_goes)

pub ruleset done_so = (read-after, note-after, commit-after, abort-after, own-stays, no_own, refused-stays)

-- The words after read and commit stand for the state after them.
use Prim.Native.Nat.{ℕ, zero, suc, ◌+◌, ◌*◌, ◌≤◌, ◌<◌}
use native.Mathlib.Omega.{arith}
use native.Mathlib.Decide.{ℕ_discrete, dec_lt}
use mathlib.Core.Path.{◌≡◌, refl, sym, ◌∙◌, ap}
use mathlib.Core.Logic.{inr}
use mathlib.Core.Bool.{Bool, true, false, cond}
use mathlib.Core.List.{List, [], ◌∷◌}
use borrow.Author.Tests.{leb-false, ltb-false}
use lib.Dec.{leb, ltb, eqb}
use lib.IntN.{ℤ}
use lib.ListN.{length, get_or, set, take, length-set, length-take, get_or-eq_default, replicate}
use lib.Seq.{get_or-set_same, get_or-set_other, get_or-take}
use mir.Syntax.{w32}
use mir.Val.{SFits}
use Rattle.lists.specs.Lists.{Every, none, also}
use Rattle.units.specs.declared.Version.{Version}
use Rattle.std.specs.Prelude.{Option, Some, None, Result, Ok, Err}
use Rattle.units.specs.declared.rule.Rule.{Rule}
use Rattle.transaction.specs.declared.Mark.{Mark}
use Rattle.transaction.specs.declared.Transaction.{Transaction}
use Rattle.transaction.specs.Transaction.{fresh, ended, recorded, tuned, written, wrote_at, reads_of, pending_of, writes_of, no_mark, no_write}
use Rattle.model.specs.Log.{newest}
use Rattle.model.specs.Log as log
use Rattle.model.specs.Rules.{certified}
use Rattle.model.specs.State.{State, opened, no_transaction, free_place, transaction, with_transaction}
use Rattle.model.specs.Step.{Step, step, checks_of, final_of, order, marked, ends}
use Rattle.model.specs.Call.{Call, Start, Read, Note, Write, Tune, Distance, Abort, Commit, Message, Newest, Reply, started, version, done, committed, aborted}
use Rattle.model.specs.Session.{reached, replies}
use Rattle.units.specs.Bounds.{triple}
use Rattle.memory.specs.Memory.{tab, base_of, mark_at, write_at, entries, loaded, stored, places_of, length_of, log_of, state_of, Good}
use Rattle.memory.proofs.Laws.{tab-same, tab-set, load_frame, log_frame, load_same, load-other, length-stored, places_at, places_stored, log-stored, state-stored, state-clock, good_loaded, good_fresh, good_written}
use Rattle.words.specs.Installed.{installed}
use Rattle.words.proofs.Installing.{length-log, length-installed, installed-other, log-installed}
use Rattle.words.specs.After.{at, closed, on_started, on_version, on_done, on_commit, change, after, cleared, opened_words, played, answered, InRange, start, read, note, write, tune, distance, abort, commit, message, latest}
use Rattle.memory.specs.Layout.{clock_at, live_at, reads_from, word_count, writes_from}

good_recorded : (t : Transaction) (m : Mark) → Good t → Good (recorded t m)
unfolding recorded
good_recorded t m g = go (ltb t.recorded 16)
  where
    go : (b : Bool) → Good (cond b (record { name = t.name; live = t.live; bounds = t.bounds; reads = set t.reads t.recorded m; recorded = t.recorded + 1; writes = t.writes; written = t.written }) t)
    go true = record { reads = length-set t.reads t.recorded m ∙ g.reads; writes = g.writes; k1 = g.k1; k2 = g.k2; k3 = g.k3; values = g.values }
    go false = g

-- the values that count are among the values
counted : (t : Transaction) → Good t → (i : ℕ) → SFits w32 (get_or (writes_of t) i no_write).value
counted t g i = go (dec_lt i t.written)
  where
    go : Dec (i < t.written) → SFits w32 (get_or (writes_of t) i no_write).value
    go (yes h) = rw (get_or-take t.written t.writes i no_write h) (g.values i)
    go (no h) =
        let past : length (take t.written t.writes) ≤ i = omega (arith, length-take t.written t.writes) in
        rw (get_or-eq_default (take t.written t.writes) no_write past) (record { sfits = omega arith })

-- ---- a transaction ends
module _ (vs : List ℕ) (whole : length vs ≡ word_count) (p : ℕ) where
  rest : (j : ℕ) → (j ≡ base_of p + live_at → ⊥) → get_or (closed vs p) j 0 ≡ get_or vs j 0
  rest j h = get_or-set_other vs (base_of p + live_at) j 0 0 h

  closed_same : loaded (closed vs p) p ≡ ended (loaded vs p)
  unfolding loaded
  closed_same =
      let reads : tab (λ (i : ℕ). mark_at (closed vs p) (base_of p + reads_from + 3 * i)) 16 ≡ tab (λ (i : ℕ). mark_at vs (base_of p + reads_from + 3 * i)) 16 = tab-same no_mark _ _ 16 (λ i k. rw (rest (base_of p + reads_from + 3 * i) (λ e. omega arith), rest (base_of p + reads_from + 3 * i + 1) (λ e. omega arith), rest (base_of p + reads_from + 3 * i + 2) (λ e. omega arith))) in
      let writes : tab (λ (i : ℕ). write_at (closed vs p) (base_of p + writes_from + 2 * i)) 16 ≡ tab (λ (i : ℕ). write_at vs (base_of p + writes_from + 2 * i)) 16 = tab-same no_write _ _ 16 (λ i k. rw (rest (base_of p + writes_from + 2 * i) (λ e. omega arith), rest (base_of p + writes_from + 2 * i + 1) (λ e. omega arith))) in
      rw
      (reads, writes, get_or-set_same vs (base_of p + live_at) 0 0 (omega arith), rest (base_of p) (λ e. omega arith), rest (base_of p + 2) (λ e. omega arith), rest (base_of p + 3) (λ e. omega arith), rest (base_of p + 4) (λ e. omega arith), rest (base_of p + 5) (λ e. omega arith), rest (base_of p + 6) (λ e. omega arith))

  log-closed : log_of (closed vs p) ≡ log_of vs
  log-closed = rw (rest 1 (λ e. omega arith)) (log_frame vs (closed vs p) (length_of vs) (omega arith) (λ j l h. rest j (λ e. omega arith)))

  places_closed : p < 32 → places_of (closed vs p) ≡ set (places_of vs) p (ended (loaded vs p))
  unfolding places_of
  places_closed below = tab-set no_transaction (loaded vs) (loaded (closed vs p)) 32 p _ below closed_same (λ q h e. load_frame vs (closed vs p) q (λ j l k. rest j (λ z. omega arith)))

  state-closed : p < 32 → state_of (closed vs p) ≡ record { clock = get_or vs clock_at 0; log = log_of vs; place = set (places_of vs) p (ended (loaded vs p)) }
  state-closed below = rw (places_closed below, log-closed, rest 0 (λ e. omega arith))

-- ---- the two calls
module _ (ws : List ℕ) (whole : length ws ≡ word_count) (n : ℕ) where
  abbrev t : Transaction
  t = loaded ws (at ws n)

  pub state-read : (k : ℕ) → state_of (after ws (Read n k)) ≡ (step (state_of ws) (Read n k)).state
  unfolding step checks_of final_of order change
  state-read k = go (leb 32 (at ws n)) refl (ltb 63 k) refl (pending_of (transaction (state_of ws) n) k) refl (leb 16 (transaction (state_of ws) n).recorded) refl
    where
      goes : at ws n < 32 → (v : Version) → state_of (stored ws (at ws n) (recorded t (marked k v))) ≡ with_transaction (state_of ws) n (recorded (transaction (state_of ws) n) (marked k v))
      goes h v = state-stored ws whole (at ws n) h (recorded t (marked k v)) (good_recorded t (marked k v) (good_loaded ws (at ws n))) ∙ rw (places_at ws (at ws n) h)

      go : (b : Bool) → leb 32 (at ws n) ≡ b → (d : Bool) → ltb 63 k ≡ d → (p : Option ℤ) → pending_of (transaction (state_of ws) n) k ≡ p → (q : Bool) → leb 16 (transaction (state_of ws) n).recorded ≡ q
          → state_of (after ws (Read n k)) ≡ (step (state_of ws) (Read n k)).state
      go true e1 d e2 p e3 q e4 = rw e1
      go false e1 true e2 p e3 q e4 = rw (e1, e2)
      go false e1 false e2 (Some v) e3 q e4 = rw (e1, e2, e3)
      go false e1 false e2 None e3 true e4 = rw (e1, e2, e3, e4)
      go false e1 false e2 None e3 false e4 = rw (e1, e2, e3, e4) (goes (leb-false 32 _ e1) (newest (log_of ws) k))

  -- a granted commit
  module _ (live : at ws n < 32) (room : length_of ws + length (writes_of t) ≤ 4096) (s : ℕ) where
    abbrev vs : List ℕ
    vs = installed ws s (writes_of t)

    long : length vs ≡ word_count
    long = length-installed (writes_of t) ws s ∙ whole

    desk : (q : ℕ) → loaded vs q ≡ loaded ws q
    desk q = load_frame ws vs q (λ j l k. installed-other (writes_of t) ws s j (inr (omega arith)))

    desks : places_of vs ≡ places_of ws
    unfolding places_of
    desks = tab-same no_transaction (loaded vs) (loaded ws) 32 (λ q h. desk q)

    state-granted : state_of (set (closed vs (at ws n)) 0 s) ≡ record { clock = s; log = log.installed (log_of ws) s (writes_of t); place = set (places_of ws) (at ws n) (ended t) }
    state-granted =
        state-clock (closed vs (at ws n)) s (omega (arith, length-set vs (base_of (at ws n) + live_at) 0, long))
        ∙ rw
        (log-closed vs long (at ws n), places_closed vs long (at ws n) live, desks, desk (at ws n), log-installed (writes_of t) ws s whole room (counted t (good_loaded ws (at ws n))))

  pub state-commit : state_of (after ws (Commit n)) ≡ (step (state_of ws) (Commit n)).state
  unfolding step checks_of final_of order change
  state-commit =
      go (leb 32 (at ws n)) refl (certified (log_of ws) (transaction (state_of ws) n)) refl (ltb 4096 (length (log_of ws) + length (writes_of (transaction (state_of ws) n)))) refl (eqb (get_or ws clock_at 0) 4294967295) refl
    where
      go : (b : Bool) → leb 32 (at ws n) ≡ b → (c : Result (Unit {0}) Rule) → certified (log_of ws) (transaction (state_of ws) n) ≡ c → (d : Bool) → ltb 4096 (length (log_of ws) + length (writes_of (transaction (state_of ws) n))) ≡ d
          → (q : Bool) → eqb (get_or ws clock_at 0) 4294967295 ≡ q
          → state_of (after ws (Commit n)) ≡ (step (state_of ws) (Commit n)).state
      go true e1 c e2 d e3 q e4 = rw e1
      go false e1 (Err r) e2 d e3 q e4 = rw (e1, e2) (state-closed ws whole (at ws n) (leb-false 32 _ e1) ∙ rw (places_at ws (at ws n) (leb-false 32 _ e1)))
      go false e1 (Ok u) e2 true e3 q e4 = rw (e1, e2, e3)
      go false e1 (Ok u) e2 false e3 true e4 = rw (e1, e2, e3, e4)
      go false e1 (Ok u) e2 false e3 false e4 =
          let live : at ws n < 32 = leb-false 32 _ e1 in
          let there : transaction (state_of ws) n ≡ t = places_at ws (at ws n) live in
          let over : length (log_of ws) + length (writes_of (transaction (state_of ws) n)) ≤ 4096 = ltb-false 4096 _ e3 in
          let size : length_of ws + length (writes_of t) ≤ 4096 = rw (length-log ws (length_of ws), there) at over in
          rw (e1, e2, e3, e4) (state-granted live size (suc (get_or ws clock_at 0)) ∙ rw there)

-- ---- opening
pub good_spare : Good (ended (fresh 0))
good_spare = let g = good_fresh 0 in record { reads = g.reads; writes = g.writes; k1 = g.k1; k2 = g.k2; k3 = g.k3; values = g.values }

module _ (ws : List ℕ) (whole : length ws ≡ word_count) where
  pub length-cleared : (n : ℕ) → length (cleared ws n) ≡ word_count
  unfolding cleared
  length-cleared zero = whole
  length-cleared (suc n) = length-stored (cleared ws n) n (ended (fresh 0)) ∙ length-cleared n

  spare_at : (n : ℕ) → n ≤ 32 → (q : ℕ) → q < n → loaded (cleared ws n) q ≡ ended (fresh 0)
  unfolding cleared
  spare_at zero l q h = absurd (omega arith)
  spare_at (suc n) l q h = go (ℕ_discrete q n) (spare_at n (omega arith) q)
    where
      go : Dec (q ≡ n) → (q < n → loaded (cleared ws n) q ≡ ended (fresh 0)) → loaded (stored (cleared ws n) n (ended (fresh 0))) q ≡ ended (fresh 0)
      go (yes z) r = rw z (load_same (cleared ws n) n (ended (fresh 0)) good_spare (length-cleared n))
      go (no z) r = load-other (cleared ws n) (length-cleared n) n (omega arith) (ended (fresh 0)) good_spare q (omega arith) z ∙ r (omega arith)

all_spare : (us : List ℕ) (t : Transaction) → ((q : ℕ) → q < 32 → loaded us q ≡ t) → places_of us ≡ replicate 32 t
unfolding places_of tab
all_spare us t h = tab-same no_transaction (loaded us) (λ (q : ℕ). t) 32 h

state-opened : (ms : List ℕ) (c : ℕ) → length ms ≡ word_count → places_of ms ≡ replicate 32 (ended (fresh 0)) → state_of (set (set ms 0 c) 1 0) ≡ opened c
unfolding places_of entries
state-opened ms c whole e =
    let us : List ℕ = set ms 0 c in
    let other : (j : ℕ) → 2 ≤ j → get_or (set us 1 0) j 0 ≡ get_or ms j 0 = λ j h. get_or-set_other us 1 j 0 0 (λ z. omega arith) ∙ get_or-set_other ms 0 j c 0 (λ z. omega arith) in
    let desk : tab (loaded (set us 1 0)) 32 ≡ tab (loaded ms) 32 = tab-same no_transaction _ _ 32 (λ q h. load_frame ms (set us 1 0) q (λ j l k. other j (omega arith))) in
    let clock : get_or (set us 1 0) 0 0 ≡ c = get_or-set_other us 1 0 0 0 (λ z. omega arith) ∙ get_or-set_same ms 0 c 0 (omega arith) in
    let none : get_or (set us 1 0) 1 0 ≡ 0 = get_or-set_same us 1 0 0 (omega (arith, length-set ms 0 c)) in
    rw (clock, none, desk, e)

-- "Opening a master gives the clock's first value": a master opened over any words is the first state of a session
pub opens : (ws : List ℕ) (c : ℕ) → length ws ≡ word_count → state_of (opened_words ws c) ≡ opened c
opens ws c whole = state-opened (cleared ws 32) c (length-cleared ws whole 32) (all_spare (cleared ws 32) (ended (fresh 0)) (spare_at ws whole 32 (omega arith)))

-- ---- every call
good_tuned : (t : Transaction) (k1 k2 k3 : ℕ) → k1 < 65536 → k2 < 65536 → k3 < 65536 → Good t → Good (tuned t (triple k1 k2 k3))
good_tuned t k1 k2 k3 h1 h2 h3 g = record { reads = g.reads; writes = g.writes; k1 = h1; k2 = h2; k3 = h3; values = g.values }

module _ (ws : List ℕ) (whole : length ws ≡ word_count) where
  -- one transaction becomes another that its words can say
  becomes : (n : ℕ) (f : Transaction → Transaction) → ((t : Transaction) → Good t → Good (f t)) → at ws n < 32
      → state_of (stored ws (at ws n) (f (loaded ws (at ws n)))) ≡ with_transaction (state_of ws) n (f (transaction (state_of ws) n))
  becomes n f good h = state-stored ws whole (at ws n) h (f (loaded ws (at ws n))) (good _ (good_loaded ws (at ws n))) ∙ rw (places_at ws (at ws n) h)

  stops : (n : ℕ) → at ws n < 32 → state_of (closed ws (at ws n)) ≡ ends (state_of ws) n
  stops n h = state-closed ws whole (at ws n) h ∙ rw (places_at ws (at ws n) h)

  state-begin : state_of (after ws Start) ≡ (step (state_of ws) Start).state
  unfolding step checks_of final_of order change
  state-begin = go (leb 32 (free_place (places_of ws))) refl (eqb (get_or ws clock_at 0) 4294967295) refl
    where
      go : (b : Bool) → leb 32 (free_place (places_of ws)) ≡ b → (d : Bool) → eqb (get_or ws clock_at 0) 4294967295 ≡ d → state_of (after ws Start) ≡ (step (state_of ws) Start).state
      go true e1 d e2 = rw e1
      go false e1 true e2 = rw (e1, e2)
      go false e1 false e2 =
          let us : List ℕ = stored ws (free_place (places_of ws)) (fresh (suc (get_or ws clock_at 0))) in
          rw (e1, e2)
          (state-clock us (suc (get_or ws clock_at 0)) (omega (arith, length-stored ws (free_place (places_of ws)) (fresh (suc (get_or ws clock_at 0)))))
          ∙ rw (log-stored ws whole _ (leb-false 32 _ e1) (fresh (suc (get_or ws clock_at 0))) (good_fresh _), places_stored ws whole _ (leb-false 32 _ e1) (fresh (suc (get_or ws clock_at 0))) (good_fresh _)))

  state-note : (n k o : ℕ) → state_of (after ws (Note n k o)) ≡ (step (state_of ws) (Note n k o)).state
  unfolding step checks_of final_of order change
  state-note n k o =
      go (leb 32 (at ws n)) refl (ltb 63 k) refl (pending_of (transaction (state_of ws) n) k) refl (log.look_up (log_of ws) k o) refl (leb 16 (transaction (state_of ws) n).recorded) refl
    where
      go : (b : Bool) → leb 32 (at ws n) ≡ b → (d : Bool) → ltb 63 k ≡ d → (p : Option ℤ) → pending_of (transaction (state_of ws) n) k ≡ p → (f : Option Version) → log.look_up (log_of ws) k o ≡ f
          → (q : Bool) → leb 16 (transaction (state_of ws) n).recorded ≡ q
          → state_of (after ws (Note n k o)) ≡ (step (state_of ws) (Note n k o)).state
      go true e1 d e2 p e3 f e4 q e5 = rw e1
      go false e1 true e2 p e3 f e4 q e5 = rw (e1, e2)
      go false e1 false e2 (Some v) e3 f e4 q e5 = rw (e1, e2, e3)
      go false e1 false e2 None e3 None e4 q e5 = rw (e1, e2, e3, e4)
      go false e1 false e2 None e3 (Some v) e4 true e5 = rw (e1, e2, e3, e4, e5)
      go false e1 false e2 None e3 (Some v) e4 false e5 =
          rw (e1, e2, e3, e4, e5) (becomes n (λ (t : Transaction). recorded t (marked k v)) (λ t g. good_recorded t (marked k v) g) (leb-false 32 _ e1))

  state-writes : (n k : ℕ) (v : ℤ) → SFits w32 v → state_of (after ws (Write n k v)) ≡ (step (state_of ws) (Write n k v)).state
  unfolding step checks_of final_of order change
  state-writes n k v f = go (leb 32 (at ws n)) refl (ltb 63 k) refl (leb 16 (wrote_at (transaction (state_of ws) n) k)) refl
    where
      go : (b : Bool) → leb 32 (at ws n) ≡ b → (d : Bool) → ltb 63 k ≡ d → (q : Bool) → leb 16 (wrote_at (transaction (state_of ws) n) k) ≡ q
          → state_of (after ws (Write n k v)) ≡ (step (state_of ws) (Write n k v)).state
      go true e1 d e2 q e3 = rw e1
      go false e1 true e2 q e3 = rw (e1, e2)
      go false e1 false e2 true e3 = rw (e1, e2, e3)
      go false e1 false e2 false e3 = rw (e1, e2, e3) (becomes n (λ (t : Transaction). written t k v) (λ t g. good_written t k v g f) (leb-false 32 _ e1))

  state-tune : (n k1 k2 k3 : ℕ) → k1 < 65536 → k2 < 65536 → k3 < 65536 → state_of (after ws (Tune n k1 k2 k3)) ≡ (step (state_of ws) (Tune n k1 k2 k3)).state
  unfolding step checks_of final_of order change
  state-tune n k1 k2 k3 h1 h2 h3 = go (leb 32 (at ws n)) refl (eqb k1 0) refl
    where
      go : (b : Bool) → leb 32 (at ws n) ≡ b → (d : Bool) → eqb k1 0 ≡ d → state_of (after ws (Tune n k1 k2 k3)) ≡ (step (state_of ws) (Tune n k1 k2 k3)).state
      go true e1 d e2 = rw e1
      go false e1 true e2 = rw (e1, e2)
      go false e1 false e2 = rw (e1, e2) (becomes n (λ (t : Transaction). tuned t (triple k1 k2 k3)) (λ t g. good_tuned t k1 k2 k3 h1 h2 h3 g) (leb-false 32 _ e1))

  state-abort : (n : ℕ) → state_of (after ws (Abort n)) ≡ (step (state_of ws) (Abort n)).state
  unfolding step checks_of final_of order change
  state-abort n = go (leb 32 (at ws n)) refl
    where
      go : (b : Bool) → leb 32 (at ws n) ≡ b → state_of (after ws (Abort n)) ≡ (step (state_of ws) (Abort n)).state
      go true e1 = rw e1
      go false e1 = rw e1 (stops n (leb-false 32 _ e1))

  -- a check that refuses, and answers that change nothing
  either : (b : Bool) (x y : Step) → x.state ≡ state_of ws → y.state ≡ state_of ws → (cond b x y).state ≡ state_of ws
  either true x y e f = e
  either false x y e f = f

  state-distance : (n i : ℕ) → state_of ws ≡ (step (state_of ws) (Distance n i)).state
  unfolding step checks_of final_of order
  state-distance n i = sym (either (leb 32 (at ws n)) _ _ refl (either (leb (length (reads_of (transaction (state_of ws) n))) i) _ _ refl refl))

  state-message : (t : ℕ) → state_of ws ≡ (step (state_of ws) (Message t)).state
  unfolding step checks_of final_of order
  state-message t = sym (either (eqb (length (log.made_at (log_of ws) t)) 0) _ _ refl refl)

  state-newest : (k : ℕ) → state_of ws ≡ (step (state_of ws) (Newest k)).state
  unfolding step checks_of final_of order
  state-newest k = sym (either (ltb 63 k) _ _ refl refl)

  -- the words after a call stand for the state after it
  pub state-after : (c : Call) → InRange c → state_of (after ws c) ≡ (step (state_of ws) c).state
  unfolding change
  state-after Start start = state-begin
  state-after (Read n k) read = state-read ws whole n k
  state-after (Note n k o) note = state-note n k o
  state-after (Write n k v) (write f) = state-writes n k v f
  state-after (Tune n k1 k2 k3) (tune h1 h2 h3) = state-tune n k1 k2 k3 h1 h2 h3
  state-after (Distance n i) distance = state-distance n i
  state-after (Abort n) abort = state-abort n
  state-after (Commit n) commit = state-commit ws whole n
  state-after (Message t) message = state-message t
  state-after (Newest k) latest = state-newest k

-- ---- a session on one memory

-- what holds of the words that a reply of a kind leaves, and of those that any other leaves, holds of the words after
module _ (P : List ℕ → Type 0) {other : List ℕ} where
  on-started : {f : ℕ → List ℕ} → ((m : ℕ) → P (f m)) → P other → (r : Reply) → P (on_started f other r)
  on-started h o (started m) = h m
  on-started h o _ = o

  on-version : {f : Version → List ℕ} → ((v : Version) → P (f v)) → P other → (r : Reply) → P (on_version f other r)
  on-version h o (version v) = h v
  on-version h o _ = o

  on-done : {f : List ℕ} → P f → P other → (r : Reply) → P (on_done f other r)
  on-done h o done = h
  on-done h o _ = o

  on-commit : {f : ℕ → List ℕ} {g : List ℕ} → ((m : ℕ) → P (f m)) → P g → P other → (r : Reply) → P (on_commit f g other r)
  on-commit h k o (committed t) = h t
  on-commit h k o (aborted q) = k
  on-commit h k o _ = o

length-change : (ws : List ℕ) (c : Call) (r : Reply) → length (change ws c r) ≡ length ws
unfolding change
length-change ws Start r =
    on-started (λ (us : List ℕ). length us ≡ length ws) (λ m. length-set (stored ws (free_place (places_of ws)) (fresh m)) 0 m ∙ length-stored ws (free_place (places_of ws)) (fresh m)) refl r
length-change ws (Read n k) r = on-version (λ (us : List ℕ). length us ≡ length ws) (λ v. length-stored ws (at ws n) (recorded (loaded ws (at ws n)) (marked k v))) refl r
length-change ws (Note n k o) r = on-version (λ (us : List ℕ). length us ≡ length ws) (λ v. length-stored ws (at ws n) (recorded (loaded ws (at ws n)) (marked k v))) refl r
length-change ws (Write n k v) r = on-done (λ (us : List ℕ). length us ≡ length ws) (length-stored ws (at ws n) (written (loaded ws (at ws n)) k v)) refl r
length-change ws (Tune n k1 k2 k3) r = on-done (λ (us : List ℕ). length us ≡ length ws) (length-stored ws (at ws n) (tuned (loaded ws (at ws n)) (triple k1 k2 k3))) refl r
length-change ws (Distance n i) r = refl
length-change ws (Abort n) r = on-done (λ (us : List ℕ). length us ≡ length ws) (length-set ws (base_of (at ws n) + live_at) 0) refl r
length-change ws (Commit n) r =
    on-commit (λ (us : List ℕ). length us ≡ length ws)
    (λ m. let vs : List ℕ = installed ws m (writes_of (loaded ws (at ws n))) in
    length-set (closed vs (at ws n)) 0 m ∙ length-set vs (base_of (at ws n) + live_at) 0 ∙ length-installed (writes_of (loaded ws (at ws n))) ws m)
    (length-set ws (base_of (at ws n) + live_at) 0)
    refl
    r
length-change ws (Message t) r = refl
length-change ws (Newest k) r = refl

-- calls one behind the other on one memory reach the state of the session, and answer its replies
pub played-state : (cs : List Call) (ws : List ℕ) → length ws ≡ word_count → Every InRange cs → state_of (played ws cs) ≡ reached (state_of ws) cs
unfolding played reached
played-state [] ws whole none = refl
played-state (c ∷ cs) ws whole (also h hs) =
    played-state cs (after ws c) (length-change ws c (step (state_of ws) c).reply ∙ whole) hs ∙ ap (λ (s : State). reached s cs) (state-after ws whole c h)

pub played-replies : (cs : List Call) (ws : List ℕ) → length ws ≡ word_count → Every InRange cs → answered ws cs ≡ replies (state_of ws) cs
unfolding answered replies
played-replies [] ws whole none = refl
played-replies (c ∷ cs) ws whole (also h hs) =
    ap (λ (rs : List Reply). (step (state_of ws) c).reply ∷ rs)
    (played-replies cs (after ws c) (length-change ws c (step (state_of ws) c).reply ∙ whole) hs ∙ ap (λ (s : State). replies s cs) (state-after ws whole c h))

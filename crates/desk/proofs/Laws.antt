-- What each call of the desk decides and changes, from what the calls below it say.
use Prim.Native.Nat.{ℕ, ◌+◌, ◌≤◌, ◌<◌}
use native.Mathlib.Omega.{arith}
use native.Mathlib.Numerals.{add-one}
use mathlib.Core.Path.{◌≡◌, refl, ◌∙◌}
use mathlib.Core.Bool.{Bool, true, false, cond}
use mathlib.Core.List.{List}
use borrow.Author.Tests.{le-leb, lt-leb, lt-ltb, le-ltb, eq-eqb, ne_eqb}
use lib.Dec.{eqb}
use lib.IntN.{ℤ}
use lib.ListN.{get_or, set}
use Rattle.units.specs.Refusal.{number_of}
use Rattle.units.specs.Bounds as triples
use Rattle.units.specs.Bounds.{triple, bounded, triple_reply}
use Rattle.units.specs.declared.Bounds.{Bounds}
use Rattle.units.specs.declared.refusal.Refusal.{Refusal}
use Rattle.units.specs.declared.refusal.Refusal.TheVariants.{ClockSpent}
use Rattle.units.specs.declared.Stamp.{Stamp}
use Rattle.std.specs.Prelude.{Option, Some, None, Result, Ok, Err, SomeIff, MatchOption, MatchResult, IsSomeAnd, IsOkAnd}
use Rattle.std.specs.Option.{ok_or}
use Rattle.desk.specs.Desk.{start_reply, done_reply}
use Rattle.transaction.specs.Transaction.{fresh, ended, tuned, written, wrote_at}
use Rattle.model.specs.State.{free_place}
use Rattle.memory.specs.Memory.{loaded, stored, places_of, state_of}
use Rattle.model.specs.Call.{Call, Start, Read, Note, Write, Tune, Distance, Abort, Commit, Message, Newest, refused, started, done}
use Rattle.model.specs.Step.{step, checks_of, final_of, order}
use Rattle.words.specs.After.{at, closed, change, after, cleared}
use Rattle.memory.proofs.Laws.{places_at}

-- ---- what is decided
module _ (ws : List ℕ) where
  pub start-full : 32 ≤ free_place (places_of ws) → refused 3 ≡ (step (state_of ws) Start).reply
  unfolding step checks_of final_of order
  start-full h = rw (le-leb _ _ h)

  -- the clock's next stamp, or 5 where there is none
  pub start-next : {P : ℕ → Stamp → Type 0} → ((x : ℕ) (s : Stamp) → P x s → s.0 ≡ x) → (next : Option ℕ) (name : Option Stamp) → free_place (places_of ws) < 32 → get_or ws 0 0 < 4294967296
      → SomeIff next (get_or ws 0 0 + 1 < 4294967296) (get_or ws 0 0 + 1) → MatchOption next (name ≡ None) (λ x. IsSomeAnd name (P x))
      → start_reply (ok_or name ClockSpent) ≡ (step (state_of ws) Start).reply
  unfolding step checks_of final_of order
  start-next q None name h f k e = let spent : get_or ws 0 0 ≡ 4294967295 = omega arith in rw (e, lt-leb 32 _ h, eq-eqb _ _ spent)
  start-next q (Some x) None h f k e = absurd e
  start-next q (Some x) (Some s) h f k e = let more : (get_or ws 0 0 ≡ 4294967295 → ⊥) = (λ z. absurd (omega arith)) in rw (q x s e, k.1, lt-leb 32 _ h, ne_eqb _ _ more, add-one)

  module _ (n k : ℕ) (v : ℤ) where
    pub write-nobody : 32 ≤ at ws n → refused 1 ≡ (step (state_of ws) (Write n k v)).reply
    unfolding step checks_of final_of order
    write-nobody h = rw (le-leb _ _ h)

    module _ (live : at ws n < 32) where
      pub write_no_key : 63 < k → refused 2 ≡ (step (state_of ws) (Write n k v)).reply
      unfolding step checks_of final_of order
      write_no_key h = rw (lt-leb 32 _ live, lt-ltb 63 _ h)

      pub write-full : k ≤ 63 → 16 ≤ wrote_at (loaded ws (at ws n)) k → refused 4 ≡ (step (state_of ws) (Write n k v)).reply
      unfolding step checks_of final_of order
      write-full h f = rw (lt-leb 32 _ live, le-ltb 63 _ h, places_at ws (at ws n) live, le-leb _ _ f)

      pub write_goes : k ≤ 63 → wrote_at (loaded ws (at ws n)) k < 16 → done ≡ (step (state_of ws) (Write n k v)).reply
      unfolding step checks_of final_of order
      write_goes h f = rw (lt-leb 32 _ live, le-ltb 63 _ h, places_at ws (at ws n) live, lt-leb 16 _ f)

  module _ (n k1 k2 k3 : ℕ) where
    pub tune-nobody : 32 ≤ at ws n → refused 1 ≡ (step (state_of ws) (Tune n k1 k2 k3)).reply
    unfolding step checks_of final_of order
    tune-nobody h = rw (le-leb _ _ h)

    -- what the constructor of a triple answers is what tune answers, of an open transaction
    pub tune-bounded : (P : Bounds → Unit {0} → Type 0) → at ws n < 32 → (r : Result Bounds Refusal) (a : Result (Unit {0}) Refusal) → triple_reply r ≡ bounded k1 k2 k3
        → MatchResult r (λ b. IsOkAnd a (P b)) (λ f. a ≡ Err f) → done_reply a ≡ (step (state_of ws) (Tune n k1 k2 k3)).reply
    unfolding step checks_of final_of order bounded
    tune-bounded P live (Ok b) (Ok u) e m = go (eqb k1 0) refl e
      where
        go : (t : Bool) → eqb k1 0 ≡ t → triples.taken b ≡ cond t (triples.refused 9) (triples.taken (triple k1 k2 k3)) → done ≡ (step (state_of ws) (Tune n k1 k2 k3)).reply
        go true z h = let y : ◌≡◌ {A = ℕ} 0 1 = cc in absurd (omega arith)
        go false z h = rw (lt-leb 32 _ live, z)
    tune-bounded P live (Ok b) (Err f) e m = absurd m
    tune-bounded P live (Err f) a e m = rw m (go (eqb k1 0) refl e)
      where
        go : (t : Bool) → eqb k1 0 ≡ t → triples.refused (number_of f) ≡ cond t (triples.refused 9) (triples.taken (triple k1 k2 k3)) → refused (number_of f) ≡ (step (state_of ws) (Tune n k1 k2 k3)).reply
        go true z h = let y : number_of f ≡ 9 = cc in rw (lt-leb 32 _ live, z, y)
        go false z h = let y : ◌≡◌ {A = ℕ} 0 1 = cc in absurd (omega arith)

  module _ (n : ℕ) where
    pub abort-nobody : 32 ≤ at ws n → refused 1 ≡ (step (state_of ws) (Abort n)).reply
    unfolding step checks_of final_of order
    abort-nobody h = rw (le-leb _ _ h)

    pub abort_goes : at ws n < 32 → done ≡ (step (state_of ws) (Abort n)).reply
    unfolding step checks_of final_of order
    abort_goes h = rw (lt-leb 32 _ h)

-- ---- what is changed
module _ (ws : List ℕ) where
  pub refused-stays : (c : Call) (m : ℕ) → refused m ≡ (step (state_of ws) c).reply → ws ≡ after ws c
  unfolding change
  refused-stays Start m e = rw (← e)
  refused-stays (Read n k) m e = rw (← e)
  refused-stays (Note n k o) m e = rw (← e)
  refused-stays (Write n k v) m e = rw (← e)
  refused-stays (Tune n k1 k2 k3) m e = rw (← e)
  refused-stays (Distance n i) m e = refl
  refused-stays (Abort n) m e = rw (← e)
  refused-stays (Commit n) m e = rw (← e)
  refused-stays (Message t) m e = refl
  refused-stays (Newest k) m e = refl

  pub start-after : (us : List ℕ) (m p : ℕ) → started m ≡ (step (state_of ws) Start).reply → p ≡ free_place (places_of ws) → us ≡ set (stored ws p (fresh m)) 0 m
      → us ≡ after ws Start
  unfolding change
  start-after us m p e f g = g ∙ rw (← e, f)

  pub write-after : (us : List ℕ) (n k p : ℕ) (v : ℤ) → done ≡ (step (state_of ws) (Write n k v)).reply → p ≡ at ws n → us ≡ stored ws p (written (loaded ws p) k v)
      → us ≡ after ws (Write n k v)
  unfolding change
  write-after us n k p v e f g = g ∙ rw (← e, f)

  pub tune-after : (us : List ℕ) (n k1 k2 k3 p : ℕ) → done ≡ (step (state_of ws) (Tune n k1 k2 k3)).reply → p ≡ at ws n → us ≡ stored ws p (tuned (loaded ws p) (triple k1 k2 k3))
      → us ≡ after ws (Tune n k1 k2 k3)
  unfolding change
  tune-after us n k1 k2 k3 p e f g = g ∙ rw (← e, f)

  pub abort-after : (us : List ℕ) (n p : ℕ) → done ≡ (step (state_of ws) (Abort n)).reply → p ≡ at ws n → us ≡ closed ws p → us ≡ after ws (Abort n)
  unfolding change
  abort-after us n p e f g = g ∙ rw (← e, f)

-- ---- the loop of opening
pub clear_step : (ws us : List ℕ) (i : ℕ) → us ≡ stored (cleared ws i) i (ended (fresh 0)) → us ≡ cleared ws (i + 1)
unfolding cleared
clear_step ws us i e = e ∙ rw (add-one i)

-- what the check finds the calls' answers by
pub ruleset decided = (start-full, write-nobody, write_no_key, write-full, write_goes, tune-nobody, abort-nobody, abort_goes)

pub ruleset done_so = (refused-stays, start-after, write-after, tune-after, abort-after)

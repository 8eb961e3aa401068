-- M-100: a transaction that was started and has not been tuned since has (2, 0, 1), in every session.
use Prim.Native.Nat.{ℕ, suc, ◌≤◌, ◌<◌}
use mathlib.Core.Path.{◌≡◌, refl, sym, ◌∙◌, ap}
use mathlib.Core.Bool.{Bool, true, false, cond}
use mathlib.Core.List.{List, [], ◌∷◌, ◌++◌}
use lib.Dec.{ltb}
use lib.IntN.{ℤ}
use lib.ListN.{length, set}
use borrow.Author.Tests.{leb-false, eqb-false}
use Rattle.lists.specs.Lists.{Every, none, also}
use Rattle.units.specs.Bounds.{triple}
use Rattle.std.specs.Prelude.{Option, Some, None}
use Rattle.transaction.specs.declared.Mark.{Mark}
use Rattle.transaction.specs.declared.Transaction.{Transaction}
use Rattle.transaction.specs.Transaction.{fresh, tuned, ended, recorded, written, wrote_at, pending_of}
use Rattle.model.specs.Log.{Entry, newest, look_up}
use Rattle.model.specs.State.{State, opened, no_transaction, at_place, place_of, nobody, transaction, free_place, with_transaction}
use Rattle.model.specs.Open.{OpenAt}
use Rattle.model.specs.Call.{Call, Start, Read, Note, Write, Tune, Distance, Abort, Commit, Message, Newest, started}
use Rattle.model.specs.Step.{Step, step, checks_of, final_of, reads, notes, marked, commits}
use Rattle.model.specs.Session.{reached, NoTuning}
use Rattle.model.specs.Reached.{Good}
use Rattle.model.proofs.Order.{Fails, order_by, order-end}
use Rattle.model.proofs.Refusals.{commit_cases}
use Rattle.model.proofs.Places.{placed, is_open}
use Rattle.model.proofs.Desk.{standing}
use Rattle.model.proofs.Changes.{start_seats}
use Rattle.model.proofs.Reached.{set_cases, recorded-name, written-name, good_step, good_reached}
use Rattle.units.specs.declared.Version.{Version}

-- the open transaction of the name n, where there is one, has (2, 0, 1)
abbrev ByDefault : ℕ → State → Type 0
ByDefault n s = (i : ℕ) → OpenAt s n i → (at_place s i).bounds ≡ triple 2 0 1

-- a step of a transaction on itself that may do nothing keeps its bounds
bounds-kept : (b : Bool) (u t : Transaction) → u.bounds ≡ t.bounds → (cond b u t).bounds ≡ t.bounds
bounds-kept true u t e = e
bounds-kept false u t e = refl

recorded-bounds : (t : Transaction) (m : Mark) → (recorded t m).bounds ≡ t.bounds
unfolding recorded
recorded-bounds t m = bounds-kept (ltb t.recorded 16) _ t refl

written-bounds : (t : Transaction) (k : ℕ) (v : ℤ) → (written t k v).bounds ≡ t.bounds
unfolding written
written-bounds t k v = bounds-kept (ltb (wrote_at t k) 16) _ t refl

module _ {opening : ℕ} (s : State) (g : Good opening s) (n : ℕ) (b : ByDefault n s) where
  -- a place takes a transaction that, if its name is n, has (2, 0, 1)
  kept_set : (clock : ℕ) (log : List Entry) (p : ℕ) (t : Transaction) → p < length s.place → (t.name.0 ≡ n → t.bounds ≡ triple 2 0 1)
      → ByDefault n (record { clock = clock; log = log; place = set s.place p t })
  kept_set clock log p t h f i o =
      set_cases P s.place p t no_transaction h (λ l live name. f name) (λ j d l live name. b j (record { place = l; live = live; name = name })) i o.place o.live o.name
    where
      P : ℕ → Transaction → Type 0
      P j u = j < 32 → u.live ≡ true → u.name.0 ≡ n → u.bounds ≡ triple 2 0 1

  module _ (m : ℕ) (known : nobody s m ≡ false) where
    -- a transaction that keeps its name and its bounds
    kept_with : (clock : ℕ) (log : List Entry) (t : Transaction) → t.name.0 ≡ (transaction s m).name.0 → t.bounds ≡ (transaction s m).bounds
        → ByDefault n (record { clock = clock; log = log; place = (with_transaction s m t).place })
    kept_with clock log t e f = kept_set clock log (place_of s.place m) t (placed s g m known) (λ q. f ∙ its (sym e ∙ q))
      where
        its : (transaction s m).name.0 ≡ n → (transaction s m).bounds ≡ triple 2 0 1
        its q = let o = standing s g m known in b (place_of s.place m) (record { place = o.place; live = o.live; name = q })

    kept-ended : (clock : ℕ) (log : List Entry) → ByDefault n (record { clock = clock; log = log; place = (with_transaction s m (ended (transaction s m))).place })
    kept-ended clock log = kept_with clock log (ended (transaction s m)) refl refl

    kept-recorded : (k : Mark) → ByDefault n (with_transaction s m (recorded (transaction s m) k))
    kept-recorded k = kept_with s.clock s.log (recorded (transaction s m) k) (recorded-name (transaction s m) k) (recorded-bounds (transaction s m) k)

    kept-reads : (k : ℕ) (p : Option ℤ) → ByDefault n (reads s m k p).state
    kept-reads k (Some v) = b
    kept-reads k None = kept-recorded (marked k (newest s.log k))

    kept-notes : (k : ℕ) (f : Option Version) → ByDefault n (notes s m k f).state
    kept-notes k (Some v) = kept-recorded (marked k v)
    kept-notes k None = b

  abbrev Kept : Step → Type 0
  Kept d = ByDefault n d.state

  kept-granted : (m : ℕ) → Every Fails (checks_of s (Commit m)) → Kept (commits s m)
  unfolding checks_of
  kept-granted m (also known hs) = kept-ended m known (suc s.clock) (commits s m).state.log

  -- every call that does not tune it
  kept_step : (c : Call) → NoTuning n c → ByDefault n (step s c).state
  unfolding step checks_of final_of
  kept_step Start q =
      order_by Kept _ _ _ (λ h. b) (λ free.
      order_by Kept _ _ _ (λ h. b) (λ ticks.
      order-end Kept _ (kept_set (suc s.clock) s.log (free_place s.place) (fresh (suc s.clock)) (rw g.desk (leb-false 32 _ free)) (λ e. refl))))
  kept_step (Read m k) q =
      order_by Kept _ _ _ (λ h. b) (λ known.
      order_by Kept _ _ _ (λ h. b) (λ key.
      order_by Kept _ _ _ (λ h. b) (λ full.
      order-end Kept _ (kept-reads m known k (pending_of (transaction s m) k)))))
  kept_step (Note m k o) q =
      order_by Kept _ _ _ (λ h. b) (λ known.
      order_by Kept _ _ _ (λ h. b) (λ key.
      order_by Kept _ _ _ (λ h. b) (λ wrote.
      order_by Kept _ _ _ (λ h. b) (λ absent.
      order_by Kept _ _ _ (λ h. b) (λ full.
      order-end Kept _ (kept-notes m known k (look_up s.log k o)))))))
  kept_step (Write m k v) q =
      order_by Kept _ _ _ (λ h. b) (λ known.
      order_by Kept _ _ _ (λ h. b) (λ key.
      order_by Kept _ _ _ (λ h. b) (λ full.
      order-end Kept _ (kept_with m known s.clock s.log (written (transaction s m) k v) (written-name (transaction s m) k v) (written-bounds (transaction s m) k v)))))
  kept_step (Tune m k1 k2 k3) q =
      order_by Kept _ _ _ (λ h. b) (λ known.
      order_by Kept _ _ _ (λ h. b) (λ bound.
      order-end Kept _ (kept_set s.clock s.log (place_of s.place m) (tuned (transaction s m) (triple k1 k2 k3)) (placed s g m known)
      (λ e. absurd (eqb-false k1 0 bound (q k1 k2 k3 (ap (λ (x : ℕ). Tune x k1 k2 k3) (sym (is_open s g m known).1 ∙ e))))))))
  kept_step (Distance m i) q =
      order_by Kept _ _ _ (λ h. b) (λ known.
      order_by Kept _ _ _ (λ h. b) (λ there.
      order-end Kept _ b))
  kept_step (Abort m) q =
      order_by Kept _ _ _ (λ h. b) (λ known.
      order-end Kept _ (kept-ended m known s.clock s.log))
  kept_step (Commit m) q = commit_cases Kept s m (λ k. b) (λ known r f. kept-ended m known s.clock s.log) (λ h. kept-granted m h)
  kept_step (Message t) q =
      order_by Kept _ _ _ (λ h. b) (λ made.
      order-end Kept _ b)
  kept_step (Newest k) q =
      order_by Kept _ _ _ (λ h. b) (λ key.
      order-end Kept _ b)

kept_on : {opening : ℕ} (n : ℕ) (s : State) → Good opening s → ByDefault n s → {cs : List Call} → Every (NoTuning n) cs → ByDefault n (reached s cs)
unfolding reached
kept_on n s g b none = b
kept_on n s g b (also {x = c} h hs) = kept_on n (step s c).state (good_step s g c) (kept_step s g n b c h) hs

-- a transaction that has just started
just_started : {opening : ℕ} (s : State) → Good opening s → (n : ℕ) → (step s Start).reply ≡ started n → ByDefault n (step s Start).state
just_started s g n e i o =
    let t = (start_seats s g n e).0 in
    let same : i ≡ t.place = (good_step s g Start).names i t.place o.live (rw t.taken refl) (o.name ∙ rw t.taken refl) in
    rw (same, t.taken) refl

pub reached-append : (s : State) (cs ds : List Call) → reached s (cs ++ ds) ≡ reached (reached s cs) ds
unfolding reached
reached-append s [] ds = refl
reached-append s (c ∷ cs) ds = reached-append (step s c).state cs ds

-- "The default becomes (2, 0, 1)": whatever was called before the start, and whatever has been called since that does not tune it
pub untuned : (opening : ℕ) → opening ≤ 4294967295 → (before after : List Call) (n i : ℕ)
    → (step (reached (opened opening) before) Start).reply ≡ started n → Every (NoTuning n) after
    → OpenAt (reached (opened opening) (before ++ (Start ∷ after))) n i → (at_place (reached (opened opening) (before ++ (Start ∷ after))) i).bounds ≡ triple 2 0 1
unfolding reached
untuned opening h before after n i e t =
    rw (reached-append (opened opening) before (Start ∷ after))
    (kept_on n (step (reached (opened opening) before) Start).state (good_step (reached (opened opening) before) (good_reached opening h before) Start)
    (just_started (reached (opened opening) before) (good_reached opening h before) n e) t i)

-- A log that is a history of whole commits, read version by version: stamps, ordinals, and what the counts of document 01 come to in it.
use Prim.Native.Nat.{ℕ, suc, ◌+◌, ◌≤◌, ◌<◌}
use native.Mathlib.Omega.{arith}
use mathlib.Core.Logic.{◌≢◌}
use mathlib.Core.Path.{◌≡◌, refl, sym, ◌∙◌, ap}
use mathlib.Core.Bool.{Bool, true, false, cond, ◌&&◌}
use mathlib.Core.List.{List, [], ◌∷◌}
use lib.Dec.{eqb, leb}
use lib.ListN.{length}
use borrow.Author.Tests.{eqb-true, eqb-false, eq-eqb, le-leb, lt-leb, leb-true, leb-false}
use Rattle.lists.specs.Lists.{count, Every, none, also}
use Rattle.lists.specs.Members.{In, here, below, Distinct, apart}
use Rattle.lists.proofs.Every.{every_map, every_both}
use Rattle.lists.proofs.Members.{every_in, in_every}
use Rattle.lists.proofs.Count.{count_le, count_mono, count-above, count_none}
use Rattle.model.proofs.Counts.{and-false}
use Rattle.units.specs.declared.Version.{Version}
use Rattle.transaction.specs.declared.Write.{Write}
use Rattle.model.specs.Log.{Entry, of_key, up_to, versions, next, installed, newest, version_of}
use Rattle.model.specs.Reached.{keys_of, Grown, bare, grew, Chain, base, link, NewestOf, start, last}

up_to_tests : (log : List Entry) (x : ℕ) {t u : ℕ} → t ≤ u
    → Every (λ (e : Entry). (of_key x e && leb e.stamp t) ≡ true → (of_key x e && leb e.stamp u) ≡ true) log
up_to_tests log x {t} {u} h = in_every _ log (λ e i q. go (of_key x e) e.stamp q)
  where
    go : (b : Bool) (s : ℕ) → (b && leb s t) ≡ true → (b && leb s u) ≡ true
    go true s q = let k = leb-true s t q in le-leb s u (omega arith)
    go false s q = q

-- where no version is stamped after t, all are counted up to t
up_to_all : (x t : ℕ) {log : List Entry} → Every (λ (e : Entry). e.stamp ≤ t) log → up_to log x t ≡ versions log x
unfolding up_to versions count
up_to_all x t none = refl
up_to_all x t (also {x = e} {xs = es} h hs) = rw (le-leb e.stamp t h) (go (of_key x e) (up_to_all x t hs))
  where
    go : (b : Bool) → up_to es x t ≡ versions es x → cond (b && true) (suc (up_to es x t)) (up_to es x t) ≡ cond b (suc (versions es x)) (versions es x)
    go true r = ap suc r
    go false r = r

-- a version of another key, or one stamped later, is not counted
up_to_skip : (e : Entry) (es : List Entry) (x t : ℕ) → (e.key ≡ x → t < e.stamp) → up_to (e ∷ es) x t ≡ up_to es x t
unfolding up_to count
up_to_skip e es x t h = go (eqb e.key x) refl
  where
    go : (b : Bool) → eqb e.key x ≡ b → cond (b && leb e.stamp t) (suc (up_to es x t)) (up_to es x t) ≡ up_to es x t
    go true q = rw (lt-leb e.stamp t (h (eqb-true _ _ q)))
    go false q = refl

-- a later moment counts no less
pub up_to_mono : (log : List Entry) (x : ℕ) {t u : ℕ} → t ≤ u → up_to log x t ≤ up_to log x u
unfolding up_to
up_to_mono log x {t} {u} h = count_mono _ _ (up_to_tests log x h)

-- and one more where a version stands between
pub up_to-more : {log : List Entry} {e : Entry} (x t u : ℕ) → In e log → e.key ≡ x → t < e.stamp → e.stamp ≤ u → up_to log x t < up_to log x u
unfolding up_to
up_to-more {log} {e} x t u i q h k = count-above _ _ (up_to_tests log x (omega arith)) i (rw (lt-leb _ _ h) (and-false (of_key x e))) (rw (eq-eqb _ _ q) (le-leb _ _ k))

pub length-installed : (log : List Entry) (stamp : ℕ) (ws : List Write) → length (installed log stamp ws) ≡ length log + length ws
unfolding installed
length-installed log stamp [] = omega arith
length-installed log stamp (w ∷ ws) = length-installed (next log stamp w ∷ log) stamp ws ∙ omega arith

module _ {opening : ℕ} where
  pub chain_from : {clock : ℕ} {log : List Entry} → Chain opening clock log → opening ≤ clock
  chain_from (base h) = h
  chain_from (link a b k o s c) = omega arith

  -- a later clock does no harm
  pub grown_later : {clock later : ℕ} {log : List Entry} → Grown opening clock log → clock ≤ later → Grown opening later log
  grown_later {later = later} (bare h) l = bare {clock = later} (omega arith)
  grown_later {later = later} (grew stamp ws g b h w) l = grew {clock = later} stamp ws g b (omega arith) w

  chain-later : {clock later : ℕ} {log : List Entry} → Chain opening clock log → clock ≤ later → Chain opening later log
  chain-later {later = later} (base h) l = base {clock = later} (omega arith)
  chain-later {later = later} (link a b k o s c) l = link {clock = later} a (omega arith) k o s c

  -- every stamp of the log is above the opening and at most the clock
  pub chain_stamps : {clock : ℕ} {log : List Entry} → Chain opening clock log → Every (λ (e : Entry). (opening < e.stamp) × (e.stamp ≤ clock)) log
  chain_stamps (base h) = none
  chain_stamps (link a b k o s c) = also (a, b) (every_map (λ e h. (h.0, omega arith)) (chain_stamps c))

  -- one commit's versions, one by one: those of a key to come are all stamped before it
  chain-install : (stamp : ℕ) (ws : List Write) (log : List Entry) → opening < stamp → Every (λ (k : ℕ). k ≤ 63) (keys_of ws) → Distinct (keys_of ws)
      → Every (λ (k : ℕ). Every (λ (e : Entry). e.key ≡ k → e.stamp < stamp) log) (keys_of ws) → Chain opening stamp log → Chain opening stamp (installed log stamp ws)
  unfolding installed
  chain-install stamp [] log a ks d es c = c
  chain-install stamp (w ∷ ws) log a (also k ks) (apart n d) (also e es) c =
      chain-install stamp ws (next log stamp w ∷ log) a ks d (every_both (λ (x : ℕ) q h. also (λ z. absurd (q (sym z))) h) n es) (link a (omega arith) k refl e c)

  pub chain : {clock : ℕ} {log : List Entry} → Grown opening clock log → Chain opening clock log
  chain (bare h) = base h
  chain (grew {before} {clock} {log} stamp ws g b l w) = go (chain g)
    where
      go : Chain opening before log → Chain opening clock (installed log stamp ws)
      go c =
          let f : opening ≤ before = chain_from c in
          chain-later (chain-install stamp ws log (omega arith) w.keys w.once (all (keys_of ws) (λ k. every_map (λ (e : Entry) h q. omega arith) (chain_stamps c))) (chain-later c (omega arith))) l
        where
          all : (ks : List ℕ) → ((k : ℕ) → Every (λ (e : Entry). e.key ≡ k → e.stamp < stamp) log) → Every (λ (k : ℕ). Every (λ (e : Entry). e.key ≡ k → e.stamp < stamp) log) ks
          all [] h = none
          all (k ∷ ks) h = also (h k) (all ks h)

  chain-below : {clock t : ℕ} {log : List Entry} → Chain opening clock log → clock ≤ t → Every (λ (e : Entry). e.stamp ≤ t) log
  chain-below c h = every_map (λ e k. omega arith) (chain_stamps c)

  -- "An ordinal numbers the versions of one key": a version's ordinal is the count up to its stamp, O_x(c_j)
  pub ordinal_counts : {clock : ℕ} {log : List Entry} {e : Entry} → Chain opening clock log → In e log → up_to log e.key e.stamp ≡ e.ordinal
  unfolding up_to count
  ordinal_counts {e = e} (base _) i = elim i [ ]
  ordinal_counts {e = e} (link {es = es} a b k o s c) here =
      rw (eq-eqb e.key e.key refl, le-leb e.stamp e.stamp (omega arith), o) (ap suc (up_to_all e.key e.stamp (chain-below c (omega arith))))
  ordinal_counts {e = e} (link {e = f} {es = es} a b k o s c) (below i) = up_to_skip f es e.key e.stamp (λ q. every_in s i (sym q)) ∙ ordinal_counts c i

  -- the same of the start version: nothing is stamped at the load
  pub load_counts : {clock : ℕ} {log : List Entry} → Chain opening clock log → (x : ℕ) → up_to log x 0 ≡ 0
  unfolding up_to
  load_counts c x = count_none _ (every_map (λ (e : Entry) h. rw (lt-leb e.stamp 0 (omega arith)) (and-false (of_key x e))) (chain_stamps c))

  -- key and stamp name one version
  pub same-stamp : {e f : Entry} {clock : ℕ} {log : List Entry} → Chain opening clock log → In e log → In f log → e.key ≡ f.key → e.stamp ≡ f.stamp → e ≡ f
  same-stamp c here here k s = refl
  same-stamp (link a b k o s c) here (below j) q r = absurd (let h = every_in s j (sym q) in omega arith)
  same-stamp (link a b k o s c) (below i) here q r = absurd (let h = every_in s i q in omega arith)
  same-stamp (link a b k o s c) (below i) (below j) q r = same-stamp c i j q r

  -- of one key, the earlier stamp has the smaller ordinal
  pub ordinals_rise : {clock : ℕ} {log : List Entry} {e f : Entry} → Chain opening clock log → In e log → In f log → e.key ≡ f.key → e.stamp < f.stamp → e.ordinal < f.ordinal
  ordinals_rise {log = log} {e} {f} c i j q h =
      rw (← (ordinal_counts c i), ← (ordinal_counts c j), q) (up_to-more f.key _ _ j refl h (omega arith))

  -- and the smaller ordinal the earlier stamp
  pub stamps_rise : {clock : ℕ} {log : List Entry} {e f : Entry} → Chain opening clock log → In e log → In f log → e.key ≡ f.key → e.ordinal < f.ordinal → e.stamp < f.stamp
  stamps_rise {log = log} {e} {f} c i j q h = go (leb f.stamp e.stamp) refl
    where
      go : (b : Bool) → leb f.stamp e.stamp ≡ b → e.stamp < f.stamp
      go true l =
          let m : up_to log f.key f.stamp ≤ up_to log f.key e.stamp = up_to_mono log f.key (leb-true _ _ l) in
          let z : up_to log e.key e.stamp ≡ up_to log f.key e.stamp = ap (λ (k : ℕ). up_to log k e.stamp) q in
          absurd (omega (arith, ordinal_counts c i, ordinal_counts c j))
      go false l = leb-false _ _ l

  -- key and ordinal name one version
  pub same-ordinal : {clock : ℕ} {log : List Entry} {e f : Entry} → Chain opening clock log → In e log → In f log → e.key ≡ f.key → e.ordinal ≡ f.ordinal → e ≡ f
  same-ordinal {e = e} {f = f} c i j q h = go (leb f.stamp e.stamp) refl (leb e.stamp f.stamp) refl
    where
      go : (a : Bool) → leb f.stamp e.stamp ≡ a → (b : Bool) → leb e.stamp f.stamp ≡ b → e ≡ f
      go true l true m = same-stamp c i j q (omega (arith, leb-true))
      go true l false m = absurd (let z = ordinals_rise c j i (sym q) (leb-false _ _ m) in omega arith)
      go false l b m = absurd (let z = ordinals_rise c i j q (leb-false _ _ l) in omega arith)

  -- "A read at the master answers the key's newest version": its ordinal is how many versions the key has
  pub newest_counts : {clock : ℕ} {log : List Entry} → Chain opening clock log → (x : ℕ) → (newest log x).ordinal.0 ≡ versions log x
  unfolding newest versions count
  newest_counts (base h) x = refl
  newest_counts (link {e = e} {es = es} a b k o s c) x = go (eqb e.key x) refl (newest_counts c x)
    where
      go : (t : Bool) → eqb e.key x ≡ t → (newest es x).ordinal.0 ≡ versions es x → (cond t (version_of e) (newest es x)).ordinal.0 ≡ cond t (suc (versions es x)) (versions es x)
      go true q r = o ∙ ap (λ (k : ℕ). suc (versions es k)) (eqb-true _ _ q)
      go false q r = r

  pub newest_is : {clock : ℕ} {log : List Entry} → Chain opening clock log → (x : ℕ) → NewestOf log x (newest log x)
  unfolding newest
  newest_is (base h) x = start none
  newest_is (link {e = e} {es = es} a b k o s c) x = go (eqb e.key x) refl (newest_is c x)
    where
      later : {v : Version} → e.key ≢ x → NewestOf es x v → NewestOf (e ∷ es) x v
      later n (start h) = start (also n h)
      later n (last f i q m) = last f (below i) q (also (λ z. absurd (n z)) m)

      go : (t : Bool) → eqb e.key x ≡ t → NewestOf es x (newest es x) → NewestOf (e ∷ es) x (cond t (version_of e) (newest es x))
      go true q r = last e here (eqb-true _ _ q) (also {x = e} (λ z. omega arith) (every_map (λ f h z. h.1) (chain_stamps c)))
      go false q r = later (eqb-false _ _ q) r

  -- "Ordinals here are 1 to 4,096": at least 1, and at most as many as the log has versions
  pub ordinal_range : {clock : ℕ} {log : List Entry} {e : Entry} → Chain opening clock log → In e log → (1 ≤ e.ordinal) × (e.ordinal ≤ length log)
  unfolding up_to
  ordinal_range {log = log} {e = e} c i =
      let a : up_to log e.key 0 < up_to log e.key e.stamp = up_to-more e.key 0 e.stamp i refl (let s = every_in (chain_stamps c) i in omega arith) (omega arith) in
      let b : up_to log e.key e.stamp ≤ length log = count_le _ log in
      let o = ordinal_counts c i in
      (omega arith, omega arith)

  -- up to the clock every version is counted
  pub up_to_now : {clock : ℕ} {log : List Entry} → Chain opening clock log → (x t : ℕ) → clock ≤ t → up_to log x t ≡ versions log x
  up_to_now c x t h = up_to_all x t (chain-below c h)

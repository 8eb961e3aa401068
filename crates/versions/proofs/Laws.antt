-- The walks over the log, one version at a time: what is left gives the whole answer.
use Prim.Native.Nat.{ℕ, zero, suc, ◌+◌, ◌-◌, ◌≤◌, ◌<◌}
use native.Mathlib.Omega.{arith}
use native.Mathlib.Numerals.{add-one, unary_clauses}
use mathlib.Core.Path.{◌≡◌, refl, ap}
use mathlib.Core.Bool.{Bool, true, false, cond, ◌&&◌}
use mathlib.Core.List.{List, [], ◌∷◌}
use borrow.Author.Tests.{lt-ltb, le-ltb}
use lib.Dec.{eqb}
use lib.ListN.{length, get_or, drop, drop_of_length-le}
use lib.Seq.{drop-cons}
use mir.Syntax.{w32}
use mir.Val.{of_z}
use Rattle.units.specs.Version.{start_version}
use Rattle.units.specs.declared.Version.{Version}
use Rattle.lists.proofs.Count.{count_le}
use Rattle.transaction.specs.declared.Write.{Write}
use Rattle.transaction.specs.Transaction.{no_write}
use Rattle.model.specs.Log.{Entry, version_of, logged, newest, versions, of_key}
use Rattle.memory.specs.Memory.{entry_at, entries, length_of, log_of}
use Rattle.std.specs.Option.{unwrap_or}
use Rattle.std.specs.Prelude.{Option, Some, None}
use Rattle.versions.specs.Last.{last_of}
use Rattle.words.specs.Installed.{laid, appended, installed}
use Rattle.words.proofs.Installing.{length-log}

module _ (ws : List ℕ) where
  pub log_back : (i : ℕ) → 0 < i → entries ws i ≡ entry_at ws (i - 1) ∷ entries ws (i - 1)
  unfolding entries
  log_back zero h = absurd (omega arith)
  log_back (suc n) h = simp unary_clauses

  pub log-more : (i : ℕ) → entries ws (i + 1) ≡ entry_at ws i ∷ entries ws i
  unfolding entries
  log-more i = rw add-one

  pub versions_le : (i x : ℕ) → versions (entries ws i) x ≤ i
  unfolding versions
  versions_le i x = omega (arith, count_le (of_key x) (entries ws i), length-log ws i)

-- ---- the walk from the newest end, i versions not yet looked at
module _ (p : ℕ → ℕ → Bool) (ws : List ℕ) (i : ℕ) (w : Option Version) (a : last_of p (entries ws i) ≡ w) where
  pub last_over : i ≤ 0 → None ≡ w
  unfolding last_of entries
  last_over h = let z : i ≡ 0 = omega arith in rw z at a

  pub last_hit : 0 < i → p (entry_at ws (i - 1)).key (entry_at ws (i - 1)).ordinal ≡ true → Some (version_of (entry_at ws (i - 1))) ≡ w
  unfolding last_of
  last_hit h e = rw (log_back ws i h, e) at a

  pub last_miss : 0 < i → p (entry_at ws (i - 1)).key (entry_at ws (i - 1)).ordinal ≡ false → last_of p (entries ws (i - 1)) ≡ w
  unfolding last_of
  last_miss h e = rw (log_back ws i h, e) at a

-- the look-ups are walks
pub last-newest : (log : List Entry) (x : ℕ) → unwrap_or (last_of (λ (k o : ℕ). eqb k x) log) start_version ≡ newest log x
unfolding last_of newest
last-newest [] x = refl
last-newest (e ∷ es) x = go (eqb e.key x) (last-newest es x)
  where
    go : (b : Bool) → unwrap_or (last_of (λ (k o : ℕ). eqb k x) es) start_version ≡ newest es x
        → unwrap_or (cond b (Some (version_of e)) (last_of (λ (k o : ℕ). eqb k x) es)) start_version ≡ cond b (version_of e) (newest es x)
    go true h = refl
    go false h = h

pub last-logged : (log : List Entry) (x j : ℕ) → last_of (λ (k o : ℕ). eqb k x && eqb o j) log ≡ logged log x j
unfolding last_of logged
last-logged [] x j = refl
last-logged (e ∷ es) x j = ap (cond (eqb e.key x && eqb e.ordinal j) (Some (version_of e))) (last-logged es x j)

-- ---- the loop of install
pub install-step : (ws us : List ℕ) (stamp i : ℕ) (l : List Write) → i < length l → us ≡ appended ws stamp (get_or l i no_write) → installed us stamp (drop (i + 1) l) ≡ installed ws stamp (drop i l)
unfolding installed
install-step ws us stamp i l h e = rw (e, drop-cons l i no_write h, add-one)

pub install_over : (ws : List ℕ) (stamp i : ℕ) (l : List Write) → length l ≤ i → ws ≡ installed ws stamp (drop i l)
unfolding installed
install_over ws stamp i l h = rw (drop_of_length-le l h)

pub append_goes : (ws : List ℕ) (at n stamp v : ℕ) (w : Write) → at ≡ length_of ws → at < 4096 → n ≡ versions (log_of ws) w.key → v ≡ of_z w32 w.value
    → laid ws at w.key (n + 1) stamp v ≡ appended ws stamp w
unfolding appended
append_goes ws at n stamp v w e h f g = rw (← e, lt-ltb at 4096 h, f, g, e)

pub append-full : (ws : List ℕ) (at stamp : ℕ) (w : Write) → at ≡ length_of ws → 4096 ≤ at → ws ≡ appended ws stamp w
unfolding appended
append-full ws at stamp w e h = rw (← e, le-ltb at 4096 h)

-- The log after versions were laid behind it, and that nothing else is touched.
use Prim.Native.Nat.{ℕ, zero, suc, ◌+◌, ◌≤◌, ◌<◌, min}
use native.Mathlib.Omega.{arith}
use native.Mathlib.Numerals.{add-one}
use mathlib.Core.Path.{◌≡◌, refl, ◌∙◌, ap}
use mathlib.Core.Logic.{◌⊎◌, inl, inr}
use mathlib.Core.Bool.{Bool, true, false, cond}
use mathlib.Core.List.{List, [], ◌∷◌}
use borrow.Author.Tests.{lt-ltb, ltb-true}
use lib.Dec.{ltb}
use lib.ListN.{length, get_or, set, length-set}
use lib.Seq.{get_or-set_same, get_or-set_other}
use mir.Syntax.{w32}
use mir.Val.{SFits, of_z, to_z}
use mir.Facts.{to_z-of_z}
use Rattle.transaction.specs.declared.Write.{Write}
use Rattle.transaction.specs.Transaction.{no_write}
use Rattle.model.specs.Log.{Entry, versions, next}
use Rattle.model.specs.Log as log
use Rattle.memory.specs.Memory.{entries, length_of, log_of}
use Rattle.words.specs.Installed.{laid, appended, installed}
use Rattle.memory.specs.Layout.{desk_from, keys_from, ordinals_from, stamps_from, values_from, word_count}

module _ (ws : List ℕ) where
  pub length-log : (n : ℕ) → length (entries ws n) ≡ n
  unfolding entries
  length-log zero = refl
  length-log (suc n) = ap suc (length-log n)

-- ---- one version more
module _ (ws : List ℕ) (at key ordinal stamp value : ℕ) where
  -- after one store, two, three, four
  abbrev one : List ℕ
  one = set ws (keys_from + at) key

  abbrev two : List ℕ
  two = set one (ordinals_from + at) ordinal

  abbrev three : List ℕ
  three = set two (stamps_from + at) stamp

  abbrev four : List ℕ
  four = set three (values_from + at) value

  -- a word that is none of the five
  pub laid-other : (j : ℕ) → (j ≡ 1 → ⊥) → (j ≡ keys_from + at → ⊥) → (j ≡ ordinals_from + at → ⊥) → (j ≡ stamps_from + at → ⊥) → (j ≡ values_from + at → ⊥)
      → get_or (laid ws at key ordinal stamp value) j 0 ≡ get_or ws j 0
  laid-other j h1 hk ho hs hv =
      get_or-set_other four 1 j (at + 1) 0 h1
      ∙ get_or-set_other three (values_from + at) j value 0 hv
      ∙ get_or-set_other two (stamps_from + at) j stamp 0 hs
      ∙ get_or-set_other one (ordinals_from + at) j ordinal 0 ho
      ∙ get_or-set_other ws (keys_from + at) j key 0 hk

  pub length-laid : length (laid ws at key ordinal stamp value) ≡ length ws
  length-laid = simp length-set

  module _ (whole : length ws ≡ word_count) (room : at < 4096) where
    laid-length : get_or (laid ws at key ordinal stamp value) 1 0 ≡ at + 1
    laid-length = get_or-set_same four 1 (at + 1) 0 (simp length-set (omega arith))

    laid-value : get_or (laid ws at key ordinal stamp value) (values_from + at) 0 ≡ value
    laid-value = get_or-set_other four 1 (values_from + at) (at + 1) 0 (λ e. omega arith) ∙ get_or-set_same three (values_from + at) value 0 (simp length-set (omega arith))

    laid-stamp : get_or (laid ws at key ordinal stamp value) (stamps_from + at) 0 ≡ stamp
    laid-stamp =
        get_or-set_other four 1 (stamps_from + at) (at + 1) 0 (λ e. omega arith)
        ∙ get_or-set_other three (values_from + at) (stamps_from + at) value 0 (λ e. omega arith)
        ∙ get_or-set_same two (stamps_from + at) stamp 0 (simp length-set (omega arith))

    laid-ordinal : get_or (laid ws at key ordinal stamp value) (ordinals_from + at) 0 ≡ ordinal
    laid-ordinal =
        get_or-set_other four 1 (ordinals_from + at) (at + 1) 0 (λ e. omega arith)
        ∙ get_or-set_other three (values_from + at) (ordinals_from + at) value 0 (λ e. omega arith)
        ∙ get_or-set_other two (stamps_from + at) (ordinals_from + at) stamp 0 (λ e. omega arith)
        ∙ get_or-set_same one (ordinals_from + at) ordinal 0 (simp length-set (omega arith))

    laid-key : get_or (laid ws at key ordinal stamp value) (keys_from + at) 0 ≡ key
    laid-key =
        get_or-set_other four 1 (keys_from + at) (at + 1) 0 (λ e. omega arith)
        ∙ get_or-set_other three (values_from + at) (keys_from + at) value 0 (λ e. omega arith)
        ∙ get_or-set_other two (stamps_from + at) (keys_from + at) stamp 0 (λ e. omega arith)
        ∙ get_or-set_other one (ordinals_from + at) (keys_from + at) ordinal 0 (λ e. omega arith)
        ∙ get_or-set_same ws (keys_from + at) key 0 (omega arith)

    laid-before : (n : ℕ) → n ≤ at → entries (laid ws at key ordinal stamp value) n ≡ entries ws n
    unfolding entries
    laid-before zero h = refl
    laid-before (suc n) h =
        rw
        (laid-other (keys_from + n) (λ e. omega arith) (λ e. omega arith) (λ e. omega arith) (λ e. omega arith) (λ e. omega arith), laid-other (ordinals_from + n) (λ e. omega arith) (λ e. omega arith) (λ e. omega arith) (λ e. omega arith) (λ e. omega arith), laid-other (stamps_from + n) (λ e. omega arith) (λ e. omega arith) (λ e. omega arith) (λ e. omega arith) (λ e. omega arith), laid-other (values_from + n) (λ e. omega arith) (λ e. omega arith) (λ e. omega arith) (λ e. omega arith) (λ e. omega arith), laid-before n (omega arith))

    pub log-laid : log_of (laid ws at key ordinal stamp value) ≡ record { key = key; ordinal = ordinal; stamp = stamp; value = to_z w32 value } ∷ entries ws at
    unfolding entries
    log-laid =
        let e : min (at + 1) 4096 ≡ suc at = omega arith in
        rw (laid-length, e, laid-key, laid-ordinal, laid-stamp, laid-value, laid-before at (omega arith))

    pub length_of_laid : length_of (laid ws at key ordinal stamp value) ≡ at + 1
    length_of_laid = rw laid-length (omega arith)

-- ---- a version appended, and a commit's versions
module _ (ws : List ℕ) (stamp : ℕ) (w : Write) where
  pub length-appended : length (appended ws stamp w) ≡ length ws
  unfolding appended
  length-appended = go (ltb (length_of ws) 4096)
    where
      go : (b : Bool) → length (cond b (laid ws (length_of ws) w.key (versions (log_of ws) w.key + 1) stamp (of_z w32 w.value)) ws) ≡ length ws
      go true = length-laid ws (length_of ws) w.key (versions (log_of ws) w.key + 1) stamp (of_z w32 w.value)
      go false = refl

  -- the clock and the desk stay
  pub appended-other : (j : ℕ) → (j ≡ 0) ⊎ (desk_from ≤ j) → get_or (appended ws stamp w) j 0 ≡ get_or ws j 0
  unfolding appended
  appended-other j h = go (ltb (length_of ws) 4096) refl h
    where
      go : (b : Bool) → ltb (length_of ws) 4096 ≡ b → (j ≡ 0) ⊎ (desk_from ≤ j) → get_or (cond b (laid ws (length_of ws) w.key (versions (log_of ws) w.key + 1) stamp (of_z w32 w.value)) ws) j 0 ≡ get_or ws j 0
      go true e (inl h) = laid-other ws (length_of ws) w.key (versions (log_of ws) w.key + 1) stamp (of_z w32 w.value) j (λ q. omega arith) (λ q. omega arith) (λ q. omega arith) (λ q. omega arith) (λ q. omega arith)
      go true e (inr h) =
          let k : length_of ws < 4096 = ltb-true (length_of ws) 4096 e in
          laid-other ws (length_of ws) w.key (versions (log_of ws) w.key + 1) stamp (of_z w32 w.value) j (λ q. omega arith) (λ q. omega arith) (λ q. omega arith) (λ q. omega arith) (λ q. omega arith)
      go false e h = refl

  module _ (whole : length ws ≡ word_count) (room : length_of ws < 4096) where
    pub log-appended : SFits w32 w.value → log_of (appended ws stamp w) ≡ next (log_of ws) stamp w ∷ log_of ws
    unfolding appended
    log-appended f =
        rw (lt-ltb (length_of ws) 4096 room, log-laid ws (length_of ws) w.key (versions (log_of ws) w.key + 1) stamp (of_z w32 w.value) whole room, to_z-of_z f, add-one)

    pub more-appended : length_of (appended ws stamp w) ≡ length_of ws + 1
    unfolding appended
    more-appended = rw (lt-ltb (length_of ws) 4096 room) (length_of_laid ws (length_of ws) w.key (versions (log_of ws) w.key + 1) stamp (of_z w32 w.value) whole room)

pub length-installed : (l : List Write) (ws : List ℕ) (stamp : ℕ) → length (installed ws stamp l) ≡ length ws
unfolding installed
length-installed [] ws stamp = refl
length-installed (w ∷ l) ws stamp = length-installed l (appended ws stamp w) stamp ∙ length-appended ws stamp w

pub installed-other : (l : List Write) (ws : List ℕ) (stamp j : ℕ) → (j ≡ 0) ⊎ (desk_from ≤ j) → get_or (installed ws stamp l) j 0 ≡ get_or ws j 0
unfolding installed
installed-other [] ws stamp j h = refl
installed-other (w ∷ l) ws stamp j h = installed-other l (appended ws stamp w) stamp j h ∙ appended-other ws stamp w j h

pub log-installed : (l : List Write) (ws : List ℕ) (stamp : ℕ) → length ws ≡ word_count → length_of ws + length l ≤ 4096 → ((i : ℕ) → SFits w32 (get_or l i no_write).value)
    → log_of (installed ws stamp l) ≡ log.installed (log_of ws) stamp l
unfolding installed log.installed
log-installed [] ws stamp whole room f = refl
log-installed (w ∷ l) ws stamp whole room f =
    log-installed l (appended ws stamp w) stamp (length-appended ws stamp w ∙ whole) (omega (arith, more-appended ws stamp w whole (omega arith))) (λ i. f (suc i))
    ∙ ap (λ (es : List Entry). log.installed es stamp l) (log-appended ws stamp w whole (omega arith) (f 0))

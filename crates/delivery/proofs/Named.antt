-- The comparison of a copy that is nowhere ahead of the master names exactly the keys where it is behind.
use Prim.Native.Nat.{ℕ, zero, suc, ◌≤◌, ◌<◌}
use native.Mathlib.Omega.{arith}
use mathlib.Core.Path.{◌≡◌, refl, sym, ◌∙◌, ap, subst}
use mathlib.Core.Logic.{⊎_elim}
use mathlib.Core.Bool.{Bool, true, false, true≢false}
use mathlib.Core.List.{List}
use lib.ListN.{get_or-map}
use borrow.Author.Tests.{ltb-true, lt-ltb, le-ltb}
use Rattle.units.specs.Version.{start_version}
use Rattle.units.specs.declared.Ordinal.{Ordinal}
use Rattle.units.specs.declared.Version.{Version}
use Rattle.model.specs.Log.{Entry, newest}
use Rattle.comparison.specs.Comparison.{behind, held_ordinal, newest_ordinal, is_ahead, is_behind, word_of, how_many, lowest, compared}
use Rattle.comparison.proofs.Words.{no_key, word_ones, word_lowest, lowest_is}
use Rattle.comparison.proofs.Named.{word_tells}
use Rattle.copy.specs.Copy.{held, ordinal_of, ordinals_of}
use Rattle.copy.specs.declared.Copy.{Copy}
use Rattle.delivery.specs.Named.{Lacks, NamesBehind, names}

-- where a test holds nowhere its word is 0, and it names no key
module _ (p : ℕ → Bool) where
  word_none : (n : ℕ) → ((j : ℕ) → j < n → p j ≡ false) → word_of p n ≡ 0
  unfolding word_of
  word_none zero f = refl
  word_none (suc n) f = rw (word_none n (λ j h. f j (omega arith)), f n (omega arith))

  many-none : (n : ℕ) → ((j : ℕ) → j < n → p j ≡ false) → how_many p n ≡ 0
  unfolding how_many
  many-none zero f = refl
  many-none (suc n) f = rw (many-none n (λ j h. f j (omega arith)), f n (omega arith))

  lowest-none : (n : ℕ) → ((j : ℕ) → j < n → p j ≡ false) → lowest p n ≡ n
  lowest-none n f = ⊎_elim (λ w. absurd (true≢false (sym w.1 ∙ f (lowest p n) w.0))) (λ w. w.0) (lowest_is p n)

module _ (log : List Entry) (c : Copy) where
  abbrev lags : ℕ → Bool
  lags = is_behind log (ordinals_of c)

  -- the ordinals handed over are those of the versions held
  held-ordinal : (k : ℕ) → held_ordinal (ordinals_of c) k ≡ (held c k).ordinal.0
  unfolding ordinals_of
  held-ordinal k = ap (λ (o : Ordinal). o.0) (get_or-map ordinal_of c.versions k start_version)

  lags_lacks : (k : ℕ) → lags k ≡ true → Lacks log c k
  lags_lacks k h = subst (λ (o : ℕ). o < newest_ordinal log k) (held-ordinal k) (ltb-true (held_ordinal (ordinals_of c) k) (newest_ordinal log k) h)

  lacks_lags : (k : ℕ) → Lacks log c k → lags k ≡ true
  lacks_lags k h = lt-ltb (held_ordinal (ordinals_of c) k) (newest_ordinal log k) (subst (λ (o : ℕ). o < newest_ordinal log k) (sym (held-ordinal k)) h)

  module _ (least : (k : ℕ) → k ≤ 63 → (held c k).ordinal.0 ≤ (newest log k).ordinal.0) where
    -- "11: some ordinal is above the master's": none is
    compared_is : compared log (ordinals_of c) ≡ behind (word_of lags 64) (how_many lags 64) (lowest lags 64)
    unfolding compared
    compared_is = rw (no_key (is_ahead log (ordinals_of c)) 64 not_ahead, word_ones lags 64, word_lowest lags 64)
      where
        not_ahead : (j : ℕ) → j < 64 → is_ahead log (ordinals_of c) j ≡ false
        not_ahead j h =
            le-ltb (newest_ordinal log j) (held_ordinal (ordinals_of c) j) (subst (λ (o : ℕ). o ≤ newest_ordinal log j) (sym (held-ordinal j)) (least j (omega arith)))

    pub compared-names : NamesBehind log c (compared log (ordinals_of c))
    compared-names =
        subst (NamesBehind log c) (sym compared_is) (names (word_of lags 64) (how_many lags 64) (lowest lags 64) (word_tells lags (Lacks log c) (λ k. (lags_lacks k, lacks_lags k))))

  -- "makes the two equal": then the word is 0, no key is behind, and there is no lowest
  pub compared_equal : ((k : ℕ) → k ≤ 63 → held c k ≡ newest log k) → compared log (ordinals_of c) ≡ behind 0 0 64
  compared_equal same =
      compared_is (λ k h. let e = ordinal k h in omega arith) ∙ rw (word_none lags 64 none, many-none lags 64 none, lowest-none lags 64 none)
    where
      ordinal : (k : ℕ) → k ≤ 63 → (held c k).ordinal.0 ≡ (newest log k).ordinal.0
      ordinal k h = ap (λ (v : Version). v.ordinal.0) (same k h)

      none : (j : ℕ) → j < 64 → lags j ≡ false
      none j h =
          let e : (held c j).ordinal.0 ≡ (newest log j).ordinal.0 = ordinal j (omega arith) in
          le-ltb (held_ordinal (ordinals_of c) j) (newest_ordinal log j) (subst (λ (o : ℕ). newest_ordinal log j ≤ o) (sym (held-ordinal j)) (omega arith))

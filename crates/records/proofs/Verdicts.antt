-- The judge is right: it judges each committed transaction once, in order of commit lines, and each verdict names the first rule that the
-- transaction breaks in the whole history, or none where it keeps all five.
use Prim.Native.Nat.{ℕ, suc, ◌≤◌, ◌<◌}
use native.Mathlib.Omega.{arith}
use mathlib.Core.Path.{◌≡◌, refl, sym, ◌∙◌, ap, subst}
use mathlib.Core.Logic.Iff
use mathlib.Core.Logic.{◌↔◌}
use mathlib.Core.Bool.{Bool, true, false, cond, not, ◌&&◌, ◌||◌, true≢false}
use mathlib.Core.List.{[], ◌∷◌, map, reverse}
use lib.Dec.{T, T_not, eqb, eqb_refl}
use lib.ListN.{length, length-map, length-reverse}
use borrow.Author.Tests.{eqb-false, eq-eqb}
use Rattle.lists.specs.Lists.{any, count, filter, Every, none, also}
use Rattle.lists.specs.Members.{Distinct, empty, apart}
use Rattle.lists.proofs.Every.{every_map, none_any}
use Rattle.records.specs.Parts.{is_start, is_commit, name_of, commits}
use Rattle.records.specs.declared.Record.{Record}
use Rattle.records.specs.declared.Record.TheVariants.{Commit}
use Rattle.records.specs.declared.Verdict.{Verdict}
use Rattle.records.specs.declared.Verdict.TheVariants.{Ok, RC, BV, FV, SV, WC}
use Rattle.records.specs.declared.Judged.{Judged}
use Rattle.records.specs.Written.{History, commit_line, KeepsRC, KeepsBV, KeepsFV, KeepsSV, KeepsWC}
use Rattle.records.specs.Ledger.{Ledger, row_of, is_open, nowhere, first, verdict_on, chain, concluded}
use Rattle.records.specs.Judge.{Taken, committed_in, Names, Right}
use Rattle.records.proofs.Backwards.{map-reverse, every_reverse}
use Rattle.records.proofs.Parts.{commit_is}
use Rattle.records.proofs.Lines.{line-here}
use Rattle.records.proofs.Rows.{open-there}
use Rattle.records.proofs.Runs.{Ran, bare, began, moved, ran}
use Rattle.records.proofs.Fields.{named-started, not_ended}
use Rattle.records.proofs.Rules.{rc_tests, bv_tests, fv_tests, sv_tests}
use Rattle.records.proofs.Later.{Steady, steady_other, steady_commit, rc-stays, bv-stays, fv-stays, sv-stays, wc-stays, past, commit-stays}
use Rattle.records.proofs.Overtaken.{wc_tests}

-- the first of five statements that does not hold
data FirstOf (rc bv fv sv wc : Type 0) : Verdict → Type 0 where
  keeps_all : rc → bv → fv → sv → wc → FirstOf rc bv fv sv wc Ok
  breaks-rc : ¬ rc → FirstOf rc bv fv sv wc RC
  breaks-bv : rc → ¬ bv → FirstOf rc bv fv sv wc BV
  breaks-fv : rc → bv → ¬ fv → FirstOf rc bv fv sv wc FV
  breaks-sv : rc → bv → fv → ¬ sv → FirstOf rc bv fv sv wc SV
  breaks-wc : rc → bv → fv → sv → ¬ wc → FirstOf rc bv fv sv wc WC

module _ {rc bv fv sv wc : Type 0} where
  -- of tests that fail exactly where the statements hold; past the first, where the first holds
  first_of : (a b c d e : Bool) → (a ≡ false) ↔ rc → (rc → (b ≡ false) ↔ bv) → (rc → (c ≡ false) ↔ fv) → (rc → (d ≡ false) ↔ sv) → (e ≡ false) ↔ wc
      → FirstOf rc bv fv sv wc (first a RC (first b BV (first c FV (first d SV (first e WC Ok)))))
  first_of true b c d e i j k m n = breaks-rc (λ x. true≢false (i.1 x))
  first_of false true c d e i j k m n = let x = i.0 refl in breaks-bv x (λ y. true≢false ((j x).1 y))
  first_of false false true d e i j k m n = let x = i.0 refl in breaks-fv x ((j x).0 refl) (λ y. true≢false ((k x).1 y))
  first_of false false false true e i j k m n = let x = i.0 refl in breaks-sv x ((j x).0 refl) ((k x).0 refl) (λ y. true≢false ((m x).1 y))
  first_of false false false false true i j k m n = let x = i.0 refl in breaks-wc x ((j x).0 refl) ((k x).0 refl) ((m x).0 refl) (λ y. true≢false (n.1 y))
  first_of false false false false false i j k m n = let x = i.0 refl in keeps_all x ((j x).0 refl) ((k x).0 refl) ((m x).0 refl) (n.0 refl)

  carry : {rc' bv' fv' sv' wc' : Type 0} {v : Verdict} → rc' ↔ rc → bv' ↔ bv → fv' ↔ fv → sv' ↔ sv → wc' ↔ wc → FirstOf rc bv fv sv wc v
      → FirstOf rc' bv' fv' sv' wc' v
  carry i j k m n (keeps_all a b c d e) = keeps_all (i.1 a) (j.1 b) (k.1 c) (m.1 d) (n.1 e)
  carry i j k m n (breaks-rc a) = breaks-rc (λ x. a (i.0 x))
  carry i j k m n (breaks-bv a b) = breaks-bv (i.1 a) (λ x. b (j.0 x))
  carry i j k m n (breaks-fv a b c) = breaks-fv (i.1 a) (j.1 b) (λ x. c (k.0 x))
  carry i j k m n (breaks-sv a b c d) = breaks-sv (i.1 a) (j.1 b) (k.1 c) (λ x. d (m.0 x))
  carry i j k m n (breaks-wc a b c d e) = breaks-wc (i.1 a) (j.1 b) (k.1 c) (m.1 d) (λ x. e (n.0 x))

abbrev First : History → ℕ → Verdict → Type 0
First h t v = FirstOf (KeepsRC h t) (KeepsBV h t) (KeepsFV h t) (KeepsSV h t) (KeepsWC h t) v

record Judges (h : History) (j : Judged) : Type 0 where
  committed : 0 < commit_line h j.name
  right : First h j.name j.verdict

-- a later line
stays : {e : Record} {h : History} {l : Ledger} → Ran (e ∷ h) l → length h < nowhere → (j : Judged) → Judges h j → Judges (e ∷ h) j
stays {e} {h} r small j k =
    record {
      committed = rw (commit-stays r small t c) c;
      right = carry (rc-stays e h t s) (bv-stays e h t s) (fv-stays e h t s) (sv-stays e h t s) (wc-stays r small t c) k.right;
    }
  where
    t : ℕ
    t = j.name

    c : 0 < commit_line h t
    c = k.committed

    s : Steady e h t
    s = steady_other e h t (past r small t c)

-- the line of the commit
abbrev judged_now : History → Ledger → ℕ → Judged
judged_now h l t = record { name = t; verdict = verdict_on l.rows (chain l.seens (row_of l.rows t).last) (suc (length h)) (row_of l.rows t) }

judges_now : {h : History} {l : Ledger} → Ran h l → length h < nowhere → (t : ℕ) → is_open (row_of l.rows t) ≡ true → Judges (Commit t ∷ h) (judged_now h l t)
unfolding verdict_on
judges_now {h} {l} r small t o =
    record {
      committed = rw (line-here (is_commit t) (Commit t) h (eq-eqb t t refl)) (omega arith);
      right =
          carry (rc-stays (Commit t) h t s) (bv-stays (Commit t) h t s) (fv-stays (Commit t) h t s) (sv-stays (Commit t) h t s) Iff.rfl
          (first_of _ _ _ _ _ (rc_tests r small t b) (bv_tests r small t b) (fv_tests r small t b) (sv_tests r small t b) (wc_tests r small t o));
    }
  where
    s : Steady (Commit t) h t
    s = steady_commit h t

    b : any (is_start t) h ≡ true
    b = sym (named-started r t) ∙ open-there l.rows t o

judging : {h : History} {l : Ledger} → Ran h l → length h ≤ nowhere → Every (Judges h) l.judged
unfolding concluded
judging bare small = none
judging (began r k) small = every_map (λ j i. stays (began r k) small j i) (judging r (omega arith))
judging (moved {h} {e} {l} r s o) small = go (commits e) refl (every_map (λ j i. stays (moved r s o) small j i) (judging r (omega arith)))
  where
    go : (b : Bool) → commits e ≡ b → Every (Judges (e ∷ h)) l.judged → Every (Judges (e ∷ h)) (cond b (judged_now h l (name_of e) ∷ l.judged) l.judged)
    go true c k = also (subst (λ (d : Record). Judges (d ∷ h) (judged_now h l (name_of e))) (sym (commit_is e c)) (judges_now r small (name_of e) o)) k
    go false c k = k

-- two different verdicts
abbrev code : Verdict → ℕ
code Ok = 0
code RC = 1
code BV = 2
code FV = 3
code SV = 4
code WC = 5

other : {v w : Verdict} {A : Type 0} → T (not (eqb (code v) (code w))) → ¬ A → (v ≡ w) ↔ A
other {v} {w} t n = (λ e. absurd (T_not (eqb (code v) (code w)) t (subst (λ (k : ℕ). T (eqb (code v) k)) (ap code e) (eqb_refl (code v)))), λ a. absurd (n a))

just : {v : Verdict} {A : Type 0} → A → (v ≡ v) ↔ A
just a = (λ e. a, λ k. refl)

-- each verdict against the rules over the whole history
names : {h : History} {t : ℕ} {v : Verdict} → First h t v → Names h t v
names (keeps_all a b c d e) =
    record {
      ok = just (a, b, c, d, e);
      rc = other tt (λ k. k a);
      bv = other tt (λ k. k.1 b);
      fv = other tt (λ k. k.2 c);
      sv = other tt (λ k. k.3 d);
      wc = other tt (λ k. k.4 e);
    }
names (breaks-rc a) =
    record { ok = other tt (λ k. a k.0); rc = just a; bv = other tt (λ k. a k.0); fv = other tt (λ k. a k.0); sv = other tt (λ k. a k.0); wc = other tt (λ k. a k.0) }
names (breaks-bv a b) =
    record { ok = other tt (λ k. b k.1); rc = other tt (λ k. k a); bv = just (a, b); fv = other tt (λ k. b k.1); sv = other tt (λ k. b k.1); wc = other tt (λ k. b k.1) }
names (breaks-fv a b c) =
    record { ok = other tt (λ k. c k.2); rc = other tt (λ k. k a); bv = other tt (λ k. k.1 b); fv = just (a, b, c); sv = other tt (λ k. c k.2); wc = other tt (λ k. c k.2) }
names (breaks-sv a b c d) =
    record { ok = other tt (λ k. d k.3); rc = other tt (λ k. k a); bv = other tt (λ k. k.1 b); fv = other tt (λ k. k.2 c); sv = just (a, b, c, d); wc = other tt (λ k. d k.3) }
names (breaks-wc a b c d e) =
    record { ok = other tt (λ k. e k.4); rc = other tt (λ k. k a); bv = other tt (λ k. k.1 b); fv = other tt (λ k. k.2 c); sv = other tt (λ k. k.3 d); wc = just (a, b, c, d, e) }

-- each committed transaction is judged, in order of commit lines
judged-names : {h : History} {l : Ledger} → Ran h l → map (λ (j : Judged). j.name) l.judged ≡ committed_in h
unfolding concluded committed_in filter
judged-names bare = refl
judged-names (began r k) = judged-names r
judged-names (moved {h} {e} {l} r s o) = go (commits e) (judged-names r)
  where
    go : (b : Bool) → map (λ (j : Judged). j.name) l.judged ≡ committed_in h
        → map (λ (j : Judged). j.name) (cond b (judged_now h l (name_of e) ∷ l.judged) l.judged) ≡ map name_of (cond b (e ∷ filter commits h) (filter commits h))
    go true k = rw k
    go false k = k

-- a name stands among them exactly if it has a commit line
committed-any : (h : History) (t : ℕ) → any (λ (n : ℕ). eqb n t) (committed_in h) ≡ any (is_commit t) h
unfolding any committed_in filter
committed-any [] t = refl
committed-any (e ∷ h) t = go (commits e) (committed-any h t)
  where
    go : (b : Bool) → any (λ (n : ℕ). eqb n t) (committed_in h) ≡ any (is_commit t) h
        → any (λ (n : ℕ). eqb n t) (map name_of (cond b (e ∷ filter commits h) (filter commits h))) ≡ (b && eqb (name_of e) t || any (is_commit t) h)
    go true k = rw k
    go false k = k

committed-once : {h : History} {l : Ledger} → Ran h l → length h ≤ nowhere → Distinct (committed_in h)
unfolding committed_in filter
committed-once bare small = empty
committed-once (began r k) small = committed-once r (omega arith)
committed-once (moved {h} {e} {l} r s o) small = go (commits e) (not_ended {e = e} (moved r s o) small).0 (committed-once r (omega arith))
  where
    go : (b : Bool) → any (is_commit (name_of e)) h ≡ false → Distinct (committed_in h) → Distinct (map name_of (cond b (e ∷ filter commits h) (filter commits h)))
    go true n k = apart (every_map (λ m q. eqb-false m (name_of e) q) (none_any (λ (m : ℕ). eqb m (name_of e)) (committed_in h) (committed-any h (name_of e) ∙ n))) k
    go false n k = k

-- as many as commit lines
committed-number : (h : History) → length (committed_in h) ≡ count commits h
unfolding committed_in count filter
committed-number [] = refl
committed-number (e ∷ h) = go (commits e) (committed-number h)
  where
    go : (b : Bool) → length (committed_in h) ≡ count commits h
        → length (map name_of (cond b (e ∷ filter commits h) (filter commits h))) ≡ cond b (suc (count commits h)) (count commits h)
    go true k = ap suc k
    go false k = k

pub judge-right : {h : History} {l : Ledger} → Taken h l → length h ≤ 4096 → Right h (reverse l.judged)
judge-right {h} {l} taken lines =
    let r = ran taken in
    record {
      order = map-reverse (λ (j : Judged). j.name) l.judged ∙ ap reverse (judged-names r);
      those = committed-any h;
      once = committed-once r (omega arith);
      number = length-reverse l.judged ∙ sym (length-map l.judged (λ (j : Judged). j.name)) ∙ ap length (judged-names r) ∙ committed-number h;
      verdicts = every_reverse (every_map (λ j k. names k.right) (judging r (omega arith)));
    }

-- The judge over a whole history: the ledger after its lines, and what its verdicts must say.
use Rattle.std.specs.Prelude.{ℕ, suc, List, [], ◌∷◌, map, reverse, ◌↔◌, ◌≡◌, eqb, length}
use Rattle.lists.specs.Lists.{any, count, filter, Every}
use Rattle.lists.specs.Members.{Distinct}
use Rattle.records.specs.declared.Record.{Record}
use Rattle.records.specs.Parts.{name_of, commits, is_commit}
use Rattle.records.specs.declared.Verdict.{Verdict}
use Rattle.records.specs.declared.Verdict.TheVariants.{Ok, RC, BV, FV, SV, WC}
use Rattle.records.specs.Written.{History, KeepsRC, KeepsBV, KeepsFV, KeepsSV, KeepsWC}
use Rattle.records.specs.Ledger.{Ledger, went, blank, line_step}
use Rattle.records.specs.declared.Judged.{Judged}

-- the ledger after the lines of a history, where none of them is refused
pub data Taken : History → Ledger → Type 0 where
  nothing : Taken [] blank
  line : {h : History} {r : Record} {l l' : Ledger} → Taken h l → line_step (suc (length h)) r l ≡ went l' → Taken (r ∷ h) l'

-- the transactions that committed, the last commit line first
unfoldable pub committed_in : History → List ℕ
committed_in h = map name_of (filter commits h)

-- "The first broken of RC, BV, FV, SV, WC is named": what a verdict on a transaction says of its whole history
pub record Names (h : History) (t : ℕ) (v : Verdict) : Type 0 where
  pub ok : (v ≡ Ok) ↔ (KeepsRC h t × KeepsBV h t × KeepsFV h t × KeepsSV h t × KeepsWC h t)
  pub rc : (v ≡ RC) ↔ (¬ KeepsRC h t)
  pub bv : (v ≡ BV) ↔ (KeepsRC h t × ¬ KeepsBV h t)
  pub fv : (v ≡ FV) ↔ (KeepsRC h t × KeepsBV h t × ¬ KeepsFV h t)
  pub sv : (v ≡ SV) ↔ (KeepsRC h t × KeepsBV h t × KeepsFV h t × ¬ KeepsSV h t)
  pub wc : (v ≡ WC) ↔ (KeepsRC h t × KeepsBV h t × KeepsFV h t × KeepsSV h t × ¬ KeepsWC h t)

-- the judge is right on a history, its verdicts in the order in which they are printed: it judges those that committed, each once, "in order of
-- commit lines", and each as the rules say
pub record Right (h : History) (js : List Judged) : Type 0 where
  pub order : map (λ (j : Judged). j.name) js ≡ reverse (committed_in h)
  pub those : (t : ℕ) → any (λ (n : ℕ). eqb n t) (committed_in h) ≡ any (is_commit t) h
  pub once : Distinct (committed_in h)
  pub number : length js ≡ count commits h
  pub verdicts : Every (λ (j : Judged). Names h j.name j.verdict) js

-- What the ledger after the lines of a history holds, in words of these lines: where a transaction ended, and what a kept read is.
use Rattle.std.specs.Prelude.{ℕ, Bool, cond, ◌&&◌, ◌||◌, ◌≡◌, eqb, ltb}
use Rattle.lists.specs.Lists.{any}
use Rattle.records.specs.Parts.{is_start, is_commit, is_abort}
use Rattle.records.specs.declared.Seen.{Seen}
use Rattle.records.specs.Written.{History, ReadLine, commit_line, wrote, stamp_of}
use Rattle.records.specs.Ledger.{Outcome, refused, went, nowhere}

-- where a transaction ended: the line of its commit, nowhere where it was aborted (or never started), 0 while it is open
unfoldable pub end_in : History → ℕ → ℕ
end_in h t = cond (any (is_commit t) h) (commit_line h t) (cond (any (is_abort t) h) nowhere (cond (any (is_start t) h) 0 nowhere))

-- the reading rule of one read, as a test
abbrev pub keeps : ReadLine → Bool
keeps x = eqb x.source 0 || wrote x.before x.source x.key && ltb 0 (commit_line x.before x.source)

-- a kept read is a read line's: resolved to the line of the version read, to nowhere where the reading rule is broken
pub record Resolves (s : Seen) (x : ReadLine) : Type 0 where
  pub key : s.key ≡ x.key
  pub line : s.line ≡ cond (keeps x) (stamp_of x) nowhere

-- the number of an outcome, 0 where the line is taken
abbrev pub outcome_number : Outcome → ℕ
outcome_number (refused n) = n
outcome_number (went l) = 0

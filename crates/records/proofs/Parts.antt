-- A record is what its letter and its parts say.
use mathlib.Core.Path.{◌≡◌, refl}
use mathlib.Core.Bool.{true, false≢true}
use Rattle.records.specs.declared.Record.{Record}
use Rattle.records.specs.declared.Record.TheVariants.{Start, Tune, Read, Write, Commit, Abort}
use Rattle.records.specs.Parts.{name_of, starts, tunes, commits, aborts, parts_of}

pub start_is : (e : Record) → starts e ≡ true → e ≡ Start (name_of e)
start_is (Start t) k = refl
start_is (Tune t b) k = absurd (false≢true k)
start_is (Read t x w) k = absurd (false≢true k)
start_is (Write t x) k = absurd (false≢true k)
start_is (Commit t) k = absurd (false≢true k)
start_is (Abort t) k = absurd (false≢true k)

pub tune_is : (e : Record) → tunes e ≡ true → e ≡ Tune (name_of e) (parts_of e).bounds
tune_is (Start t) k = absurd (false≢true k)
tune_is (Tune t b) k = refl
tune_is (Read t x w) k = absurd (false≢true k)
tune_is (Write t x) k = absurd (false≢true k)
tune_is (Commit t) k = absurd (false≢true k)
tune_is (Abort t) k = absurd (false≢true k)

pub commit_is : (e : Record) → commits e ≡ true → e ≡ Commit (name_of e)
commit_is (Start t) k = absurd (false≢true k)
commit_is (Tune t b) k = absurd (false≢true k)
commit_is (Read t x w) k = absurd (false≢true k)
commit_is (Write t x) k = absurd (false≢true k)
commit_is (Commit t) k = refl
commit_is (Abort t) k = absurd (false≢true k)

pub abort_is : (e : Record) → aborts e ≡ true → e ≡ Abort (name_of e)
abort_is (Start t) k = absurd (false≢true k)
abort_is (Tune t b) k = absurd (false≢true k)
abort_is (Read t x w) k = absurd (false≢true k)
abort_is (Write t x) k = absurd (false≢true k)
abort_is (Commit t) k = absurd (false≢true k)
abort_is (Abort t) k = refl

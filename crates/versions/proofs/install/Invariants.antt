use Rattle.std.proofs.Common.{◌≡◌, drop}
use Rattle.words.specs.Installed.{installed}
use Rattle.versions.proofs.install.Given as goal

abbrev pub invariant-loop-w : goal.invariant-loop-w
invariant-loop-w l = installed l.memory l.stamp.0 (drop l.w-index l.w-items) ≡ installed l.initial.memory l.stamp.0 l.w-items

use Rattle.std.proofs.Common.{◌∙◌, arith}
use Rattle.versions.proofs.Laws.{install-step, install_over}
use Rattle.versions.proofs.install.Goals as goal

pub loop-w-preserved : goal.loop-w-preserved
loop-w-preserved c = install-step c.loop-w.memory _ c.args.stamp.0 c.loop-w.w-index c.writes-w-items.result.now (omega arith) c.append.ensures ∙ c.loop-w.invariant

pub returns : goal.returns
returns c = install_over c.loop-w.memory c.args.stamp.0 c.loop-w.w-index c.writes-w-items.result.now (omega arith) ∙ c.loop-w.invariant ∙ rw c.writes-w-items.ensures

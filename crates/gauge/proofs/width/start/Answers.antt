-- `width::start` meets its contract.
use Rattle.std.proofs.Common.{ap, ◌∙◌}
use Rattle.machine.specs.declared.Machine.{Machine}
use Rattle.machine.specs.State.{HostStore, host_store_of}
use Rattle.gauge.specs.Width.{start_of}
use Rattle.gauge.proofs.width.start.Goals as goal

pub returns : goal.returns
unfolding start_of
returns c =
    ap (λ (s : HostStore). s.machine) c.host_store.ensures
    ∙ ap (λ (m : Machine). (host_store_of m 0xC0 c.args.count).machine) c.fresh.ensures

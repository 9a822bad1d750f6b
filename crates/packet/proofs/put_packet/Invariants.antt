-- The invariant: behind the total the bytes before place i are laid down.
use Rattle.packet.proofs.PackLaws.{Laying}
use Rattle.packet.proofs.put_packet.Given as goal

abbrev pub invariant-loop-i : goal.invariant-loop-i
invariant-loop-i l = Laying l.initial.out l.out l.bytes l.i

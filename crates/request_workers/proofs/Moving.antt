-- A replica at a desk may go to another thread.
use denote.RattleType.{RattleType}
use denote.Ref.{NamedLft}
use denote.Param.Send.{IsSend, recorded_send, shr_send, struct_send}
use denote.Struct.Declared.{shape}
use Rattle.ind_disk.specs.declared.disk.Disk.{Ghosts as DiskGhosts}
use Rattle.batch_storage.specs.declared.storage.Storage.{Ghosts as StorageGhosts}
use Rattle.replica_node.specs.declared.ends.Ends.{Ghosts as EndsGhosts}
use Rattle.replica_node.specs.contracts.served.Served.TheInside as inside
use Rattle.replica_node.proofs.node.Node.TheSendSync as node
use Rattle.spec_model.proofs.plan.Setup.TheSendSync as setup
use Rattle.std.proofs.alloc.Global.TheSendSync as heap

pub inside_moves : (κ : NamedLft) (S E D M : RattleType) (s : StorageGhosts S.Denot D.Denot) (d : DiskGhosts D.Denot) (e : EndsGhosts E.Denot M.Denot) → IsSend S → IsSend E → IsSend (inside.the_row κ S E D M s d e)
inside_moves κ S E D M s d e send_s send_e = recorded_send (inside.the_field κ S E D M s d e).row _ _ (inside.the_type κ S E D M s d e).to_one (struct_send (shape (inside.the_type κ S E D M s d e)) (node.the_field_send S E D M send_s send_e, (shr_send κ.mir κ.lft _ setup.the_sync, (heap.the_field_send, (record { owned = λ x vs. ((λ vss. (tt, ((λ uss. (tt, tt)), tt))), tt); leaving = λ k x w. tt }, tt)))))

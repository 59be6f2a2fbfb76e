-- What contracts see of a link and of its passes.
use Rattle.std.specs.Prelude.{◌≡◌, ℕ, List}
use Rattle.atomic_table.specs.Seated.{TableId}
use Rattle.crossbeam_queue.specs.Passes.{view, ruled_capacity}
use Rattle.replica_links.specs.declared.link.Link.{Link}
use Rattle.replica_links.specs.declared.pass.PutPass.{PutPass}
use Rattle.replica_links.specs.declared.pass.GetPass.{GetPass}

module _ {M : Type 0} where
  -- how many messages the link may hold
  abbrev pub room_of : Link M → ℕ
  room_of link = ruled_capacity link.queue

  -- which link it is
  abbrev pub id_of : Link M → TableId
  id_of link = link.queue.table.shared.table_id

  -- with which link the pass was made
  abbrev pub put_link : PutPass M → TableId
  put_link pass = pass.end.table_id

  abbrev pub get_link : GetPass M → TableId
  get_link pass = pass.end.table_id

  -- the pass was made with this link
  abbrev pub IsPutOf : Link M → PutPass M → Type 0
  IsPutOf link pass = put_link pass ≡ id_of link

  abbrev pub IsGetOf : Link M → GetPass M → Type 0
  IsGetOf link pass = get_link pass ≡ id_of link

  -- what was put
  abbrev pub put_of : PutPass M → List M
  put_of pass = (view pass.end).put

  -- a beginning of what was taken, as far as the pass that puts was told
  abbrev pub known_taken : PutPass M → List M
  known_taken pass = (view pass.end).taken

  -- what was taken
  abbrev pub taken_of : GetPass M → List M
  taken_of pass = (view pass.end).taken

  -- a beginning of what was put, as far as the pass that takes was told
  abbrev pub known_put : GetPass M → List M
  known_put pass = (view pass.end).put

  -- how many gets found nothing
  abbrev pub idle_of : GetPass M → ℕ
  idle_of pass = (view pass.end).idle

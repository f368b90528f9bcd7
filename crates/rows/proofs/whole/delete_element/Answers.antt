use Rattle.rows.proofs.WholeEdits.{delete_begins, delete_within, delete_ends}
use Rattle.rows.proofs.whole.delete_element.Goals as goal

pub remove-out-requires : goal.remove-out-requires
remove-out-requires g c = (_, delete_begins c.requires c.in-Some.is)

pub release-requires : goal.release-requires
release-requires g c = delete_within c.requires (c.remove-out.ensures _ (delete_begins c.requires c.in-Some.is))

pub returns : goal.returns
returns g c =
    let r = c.release.ensures in
    delete_ends c.requires (c.remove-out.ensures _ (delete_begins c.requires c.in-Some.is)) r.free_list r.kept r.long

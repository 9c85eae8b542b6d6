use Rattle.kt_body.proofs.writes.do_write.Goals as goal

pub store-requires : goal.store-requires
store-requires g c = rw c.in-Store.is at c.requires

pub fold-requires : goal.fold-requires
fold-requires g c = rw c.in-Fold.is at c.requires

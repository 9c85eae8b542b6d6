use Rattle.std.proofs.lemmas.Result.{err_from_is_err_and}
use Rattle.kt_body.proofs.Steps.{can_small, ran_same, still_can, still_err, still_here, still_next}
use Rattle.kt_body.proofs.exec.write.Goals as goal

pub object_at-object-requires : goal.object_at-object-requires
object_at-object-requires g c = (can_small _ c.requires).0

pub eval-requires : goal.eval-requires
eval-requires g c =
    let s1 = still_next _ _ _ (still_here _ c.requires) (ran_same _ _ _ c.object_at-object.ensures.object) in
    still_can _ _ _ s1

pub returns-in_err-i : goal.returns-in_err-i
returns-in_err-i g c =
    let s1 = still_next _ _ _ (still_here _ c.requires) (ran_same _ _ _ c.object_at-object.ensures.object) in
    let p = err_from_is_err_and c.from_residual.result c.from_residual.ensures.1 in
    rw (p.1, p.2) (still_err _ _ _ s1 c.in_err-i.ensures)

pub eval-requires-2 : goal.eval-requires-2
eval-requires-2 g c =
    let s1 = still_next _ _ _ (still_here _ c.requires) (ran_same _ _ _ c.object_at-object.ensures.object) in
    let s2 = still_next _ _ _ s1 c.in_ok-i.ensures in
    still_can _ _ _ s2

pub returns-in_err-n : goal.returns-in_err-n
returns-in_err-n g c =
    let s1 = still_next _ _ _ (still_here _ c.requires) (ran_same _ _ _ c.object_at-object.ensures.object) in
    let s2 = still_next _ _ _ s1 c.in_ok-i.ensures in
    let p = err_from_is_err_and c.from_residual-in_err-n.result c.from_residual-in_err-n.ensures.1 in
    rw (p.1, p.2) (still_err _ _ _ s2 c.in_err-n.ensures)

pub write_element-requires : goal.write_element-requires
write_element-requires g c =
    let s1 = still_next _ _ _ (still_here _ c.requires) (ran_same _ _ _ c.object_at-object.ensures.object) in
    let s2 = still_next _ _ _ s1 c.in_ok-i.ensures in
    let s3 = still_next _ _ _ s2 c.in_ok-n.ensures in
    s3.can

pub returns : goal.returns
returns g c =
    let s1 = still_next _ _ _ (still_here _ c.requires) (ran_same _ _ _ c.object_at-object.ensures.object) in
    let s2 = still_next _ _ _ s1 c.in_ok-i.ensures in
    let s3 = still_next _ _ _ s2 c.in_ok-n.ensures in
    s3.ends _ _ c.write_element.ensures

use Rattle.std.proofs.Common.{length, sym, ap, subst, arith}
use Rattle.rows.specs.FreeList.{FreeList, among}
use Rattle.rows.proofs.FreeLists.{free_none, free_some}
use Rattle.rows.proofs.free_list.take_free.Goals as goal

pub row_at-row-requires : goal.row_at-row-requires
row_at-row-requires g c = (free_some _ _ _ _ c.in-Some.is c.requires.1).within

pub returns-then-used-room : goal.returns-then-used-room
returns-then-used-room g c = λ fs ch. (free_none _ _ fs c.in_default.is ch, omega (arith, c.if-used-room.true, c.min-room.ensures))

pub returns-in-Some : goal.returns-in-Some
returns-in-Some g c = λ fs ch.
    let n = free_some _ _ _ _ c.in-Some.is ch in
    let e = c.row_at-row.ensures c.row_at-row.result in
    record {
      left = n.ps;
      free_list = subst (λ z. FreeList c.args.rows.now z.left n.ps) (sym e) (n.then c.row_at-row.result);
      within = n.within;
      places = λ k. omega (arith, ap (among k) n.is);
      past = λ k h. omega (arith, ap (among k) n.is);
      fewer = omega (arith, ap length n.is);
      more = omega arith;
      small = λ h. h;
      inside = λ h. h;
    }

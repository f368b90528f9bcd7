-- How moves, bounds, extents and the reasons for no speeds are printed.
use Rattle.std.specs.Prelude.{ℕ, List, ◌++◌, ℤ, Some, None, Option, codes, decimal}
use Rattle.std.specs.Fmt.{signed_decimal}
use Rattle.motion.specs.declared.extents.Bounds.{Bounds}
use Rattle.motion.specs.declared.extents.Extent.{Extent}
use Rattle.motion.specs.declared.passes.Unplanned.{Unplanned}
use Rattle.motion.specs.declared.moves.Move.{Move}
use Rattle.motion.specs.declared.passes.Unplanned.TheVariants.{Blocked, Memory}
use Rattle.motion.specs.Ranges.{axis}

-- a position: x, y and z
abbrev pub position_text : List ℤ → List ℕ
position_text p = codes "(" ++ (signed_decimal (axis p 0) ++ (codes ", " ++ (signed_decimal (axis p 1) ++ (codes ", " ++ (signed_decimal (axis p 2) ++ codes ")")))))

-- a move: its target, acceleration, feed and corner speed
abbrev pub move_text : Move → List ℕ
move_text m = position_text m.target ++ codes " a " ++ decimal m.acceleration ++ codes " f " ++ decimal m.feed ++ codes " r " ++ decimal m.corner

abbrev pub bounds_text : Bounds → List ℕ
bounds_text b = signed_decimal b.least ++ codes " to " ++ signed_decimal b.greatest

abbrev pub extent_text : Extent → List ℕ
extent_text e = codes "x " ++ bounds_text e.x ++ codes ", y " ++ bounds_text e.y ++ codes ", z " ++ bounds_text e.z

-- where memory is missed, the words are the library's own
abbrev pub unplanned_text : Unplanned → Option (List ℕ)
unplanned_text (Blocked m) = Some (codes "no lawful profile up to junction " ++ decimal m)
unplanned_text (Memory error) = None

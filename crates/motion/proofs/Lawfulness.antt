-- The two passes: what lies under them, and that what they give is lawful.
use Rattle.std.proofs.Common.{◌≡◌, ℕ, zero, suc, ◌+◌, ◌-◌, ◌<◌, ◌≤◌, min, List, map, length, get_or, sym, refl, ap, ◌∙◌, arith}
use Rattle.std.proofs.lemmas.List.FromFn.{length-map-range_with_len, get_or-map-range_with_len}
use Rattle.std.proofs.lemmas.List.{get_or_past, get_or-map, length-map, ext_get_or}
use Rattle.motion.specs.declared.blocks.Block.{Block}
use Rattle.motion.specs.Figures.{own_cap}
use Rattle.motion.specs.Profiles.{own_at, junction_cap, Caps, fall_at, at, Lawful, Starts, Greatest, reverse_from, reverse_at, greatest_start, forward_from, speeds_to, speeds_of, Passes}

module _ (blocks : List Block) where
  pub own_past : (j : ℕ) → length blocks ≤ j → own_at blocks j ≡ 0
  own_past j h = get_or_past (map own_cap blocks) j 0 (omega (arith, length-map blocks own_cap))

  pub own_at_is : (j : ℕ) (b : Block) → j < length blocks → own_at blocks j ≡ own_cap (get_or blocks j b)
  own_at_is j b h = get_or-map own_cap blocks j b 0 h

  cap_past : (n : ℕ) → own_at blocks n ≡ 0 → junction_cap blocks n ≡ 0
  cap_past zero e = e
  cap_past (suc n) e = omega arith

  pub caps : Caps blocks (junction_cap blocks)
  caps = record {
    last = cap_past (length blocks) (own_past (length blocks) (omega arith));
    first = λ _. refl;
    between = λ _ _. refl;
  }

  pub reverse_cap : (j d : ℕ) → reverse_from blocks j d ≤ junction_cap blocks j
  reverse_cap j zero = omega arith
  reverse_cap j (suc d) = omega arith

  pub reverse_step : (j m : ℕ) → j < m → reverse_from blocks j (m - j) ≡ min (junction_cap blocks j) (reverse_from blocks (suc j) (m - suc j) + fall_at blocks j)
  reverse_step j m h = let e : m - j ≡ suc (m - suc j) = omega arith in ap (reverse_from blocks j) e

  -- a lawful profile is under the reverse pass
  under_reverse : (m s : ℕ) (w : List ℕ) → Lawful blocks m s w → (d j : ℕ) → j + d ≡ m → at w j ≤ reverse_from blocks j d
  under_reverse m s w l zero j e = l.under j (omega arith)
  under_reverse m s w l (suc d) j e =
      omega (arith, l.under j (omega arith), l.falling j (omega arith), under_reverse m s w l d (suc j) (omega arith))

  pub start_under : (m s : ℕ) → Starts blocks m s → s ≤ greatest_start blocks m
  start_under m s (v, l) = omega (arith, l.starts, under_reverse m s v l m 0 (omega arith))

  -- and under the forward pass
  under_forward : (m s : ℕ) (w : List ℕ) → Lawful blocks m s w → (j : ℕ) → j ≤ m → at w j ≤ forward_from blocks m s j
  under_forward m s w l zero h = omega (arith, l.starts)
  under_forward m s w l (suc j) h =
      omega (arith, under_reverse m s w l (m - suc j) (suc j) (omega arith), l.rising j (omega arith), under_forward m s w l j (omega arith))

  forward_reverse : (m s : ℕ) → s ≤ greatest_start blocks m → (j : ℕ) → forward_from blocks m s j ≤ reverse_from blocks j (m - j)
  forward_reverse m s h zero = let e : m - 0 ≡ m = omega arith in omega (arith, ap (reverse_from blocks 0) e)
  forward_reverse m s h (suc j) = omega arith

  pub at_speeds : (m s j : ℕ) → j ≤ m → at (speeds_to blocks m s) j ≡ forward_from blocks m s j
  at_speeds m s j h = get_or-map-range_with_len (forward_from blocks m s) 0 (suc m) j j 0 (omega arith) (omega arith)

  speeds_lawful : (m s : ℕ) → s ≤ greatest_start blocks m → Lawful blocks m s (speeds_to blocks m s)
  speeds_lawful m s h = record {
    long = length-map-range_with_len (forward_from blocks m s) 0 (suc m);
    starts = refl;
    under = λ j k. omega (arith, at_speeds m s j k, forward_reverse m s h j, reverse_cap j (m - j));
    rising = λ j k. omega (arith, at_speeds m s j (omega arith), at_speeds m s (suc j) k);
    falling = λ j k. omega (arith, at_speeds m s j (omega arith), at_speeds m s (suc j) k, forward_reverse m s h j, reverse_step j m k);
  }

  pub starts_at : (m s : ℕ) → s ≤ greatest_start blocks m → Starts blocks m s
  starts_at m s h = (speeds_to blocks m s, speeds_lawful m s h)

  pub greatest : (s : ℕ) → Starts blocks (length blocks) s → Greatest blocks s (speeds_of blocks s)
  greatest s v = record {
    lawful = speeds_lawful (length blocks) s (start_under (length blocks) s v);
    above = λ w l j h. omega (arith, at_speeds (length blocks) s j h, under_forward (length blocks) s w l j h);
  }

  pub one_greatest : (s : ℕ) (v w : List ℕ) → Greatest blocks s v → Greatest blocks s w → v ≡ w
  one_greatest s v w g h =
      ext_get_or 0 v w (g.lawful.long ∙ sym h.lawful.long)
      (λ i k. omega (arith, g.lawful.long, g.above w h.lawful i (omega (arith, g.lawful.long)), h.above v g.lawful i (omega (arith, g.lawful.long))))

  shorter : (d j : ℕ) → reverse_from blocks j (suc d) ≤ reverse_from blocks j d
  shorter zero j = omega arith
  shorter (suc d) j = omega (arith, shorter d (suc j))

  shorter_by : (k d : ℕ) → greatest_start blocks (d + k) ≤ greatest_start blocks k
  shorter_by k zero = let e : 0 + k ≡ k = omega arith in omega (arith, ap (greatest_start blocks) e)
  shorter_by k (suc d) = let e : suc d + k ≡ suc (d + k) = omega arith in omega (arith, ap (greatest_start blocks) e, shorter (d + k) 0, shorter_by k d)

  -- a longer prefix allows no more
  pub falls : (k m : ℕ) → k ≤ m → greatest_start blocks m ≤ greatest_start blocks k
  falls k m h = let e : m - k + k ≡ m = omega arith in omega (arith, ap (greatest_start blocks) e, shorter_by k (m - k))

  pub whole : greatest_start blocks (length blocks) ≡ reverse_at blocks 0
  whole = let e : length blocks ≡ length blocks - 0 = omega arith in ap (reverse_from blocks 0) e

  pub passes : Passes blocks
  passes = record {
    reverse_last = let e : length blocks - length blocks ≡ 0 = omega arith in ap (reverse_from blocks (length blocks)) e;
    reverse_step = λ j h. reverse_step j (length blocks) h;
    forward_first = λ s. refl;
    forward_step = λ s j. refl;
    starts = λ s. (λ v. omega (arith, whole, start_under (length blocks) s v), λ h. starts_at (length blocks) s (omega (arith, whole)));
    greatest = greatest;
    one_greatest = λ s v g. one_greatest s v (speeds_of blocks s) g (greatest s (v, g.lawful));
  }

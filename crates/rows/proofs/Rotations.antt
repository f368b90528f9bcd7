-- A row is put over two sides: as they are, or by a single or a double rotation.
use Rattle.std.proofs.Common.{◌≡◌, ℕ, ◌+◌, ◌<◌, ◌≤◌, List, Some, Option, sym, refl, ap, ◌∙◌, arith}
use Rattle.kinds.specs.Rules.{Rule}
use Rattle.rows.specs.Edits.{Sides, Refreshed, Edit, Rebalance, TooDeep, Rebalanced}
use Rattle.rows.specs.Hands.{left_by, right_by}
use Rattle.rows.specs.Shape.{Shape, count_of, depth_of, elements, same, times, node_of, Rooted, Told}
use Rattle.rows.specs.declared.Row.{Row}
use Rattle.rows.specs.declared.balance.Hand.{Hand}
use Rattle.rows.specs.declared.balance.Hand.TheVariants.{Left, Right}
use Rattle.rows.proofs.Frames.{same_self, lies_put, put_node, within_put, long_put, kept_put}
use Rattle.rows.proofs.Hands.{list_by, regrouped, over, comes_over, balanced_over, told_over, put_over, Opened}

module _ {E S : Type 0} {rows : List (Row E S)} {p : ℕ} {left right : Option ℕ} {l r : Shape E S} (o : Rebalance rows p left right l r) where
  pub refreshed : {m : Rule E S} {more : List (Row E S)} {e : E} → Refreshed m rows p e l r more → depth_of l ≤ depth_of r + 1 → depth_of r ≤ depth_of l + 1 → Rebalanced m rows more p e p l r
  refreshed {m} {more} {e} w near-l near-r =
      let h = o.places p in
      let z = same_self p in
      record {
        edit = record {
          t = node_of m p e l r;
          rooted = (refl, put_node w o.within (omega arith) o.left_is.1 o.right_is.1);
          balanced = (near-l, near-r, o.left_balanced, o.right_balanced);
          at_least = omega arith;
          at_most = omega arith;
          places = λ k. omega arith;
          holds = refl;
          long = long_put w;
          kept = λ k d y. kept_put w k d (omega arith);
          told = λ t. (refl, t.0, t.1);
        };
        exact = λ i j. omega arith;
      }

  pub too_deep : {q : ℕ} → left ≡ Some q → depth_of r + 2 ≤ depth_of l → TooDeep rows p (Some q) right l r
  too_deep at deep =
      record { within = o.within; deep_is = (sym at ∙ o.left_is.0, o.left_is.1); other_is = o.right_is; deep_balanced = o.left_balanced; other_balanced = o.right_balanced; tall = omega arith; places = o.places; few = o.few; low = omega arith }

-- a rotation by a hand is one of the two sides
abbrev Turned : {E S : Type 0} → Hand → Rule E S → List (Row E S) → List (Row E S) → ℕ → E → ℕ → Shape E S → Shape E S → Type 0
Turned h m rows last p e top t r = Edit m rows last (Some top) (λ k. times k t + times k r + same k p) (λ k. times k t + times k r + same k p) (list_by h (elements t) e (elements r)) (depth_of t) (depth_of t + 1) (Told m t × Told m r)

turned : {E S : Type 0} (h : Hand) {m : Rule E S} {rows last : List (Row E S)} {p top : ℕ} {e : E} (t r : Shape E S) → depth_of t ≡ depth_of r + 2 → Turned h m rows last p e top t r → Rebalanced m rows last p e top (left_by h t r) (right_by h t r)
turned Left t r tall u =
    record { edit = record { t = u.t; rooted = u.rooted; balanced = u.balanced; at_least = omega arith; at_most = omega arith; places = u.places; holds = u.holds; long = u.long; kept = u.kept; told = u.told }; exact = λ i j. omega arith }
turned Right t r tall u =
    record {
      edit = record { t = u.t; rooted = u.rooted; balanced = u.balanced; at_least = omega arith; at_most = omega arith; places = λ k. omega (arith, u.places k); holds = u.holds; long = u.long; kept = λ k d z. u.kept k d (omega arith); told = λ s. u.told (s.1, s.0) };
      exact = λ i j. omega arith;
    }

-- t is too deep, and is taken apart at its top q
module _ {E S : Type 0} {rows : List (Row E S)} {p q : ℕ} {side other outer inner : Option ℕ} {h : Hand} {f : E} {t r : Shape E S} (o : TooDeep rows p side other t r) (n : Opened h rows q f outer inner t) where
  -- the sides of a row that is put over parts of these trees
  part_sides : {more : List (Row E S)} {a b : Option ℕ} (u v : Shape E S) → count_of u + count_of v ≤ count_of t + count_of r + 2 → depth_of u ≤ depth_of t + 2 → depth_of v ≤ depth_of t + 2 → Rooted more a u → Rooted more b v → Sides more a b
  part_sides u v count du dv su sv = record { l = u; r = v; left_is = su; right_is = sv; few = omega arith; low = omega arith }

  pub single_sides : Sides rows inner other
  single_sides = part_sides n.v r (omega arith) (omega arith) (omega arith) n.far_is o.other_is

  -- neither p nor q stands in what is put over them
  p_apart : times p n.u + times p n.v + times p r + same p q ≡ 0
  p_apart = omega (arith, o.places p, n.comes.places p, same_self p)

  q_apart : times q n.u + times q n.v + times q r + same q p ≡ 0
  q_apart = omega (arith, o.places q, n.comes.places q, same_self q)

  -- p was written over any trees
  pub outer_stays : {m : Rule E S} {e : E} {one : List (Row E S)} {x y : Shape E S} → Refreshed m rows p e x y one → Rooted one outer n.u
  outer_stays w1 = (n.near_is.0, lies_put w1 n.u (omega (arith, p_apart)) n.near_is.1)

  module _ {m : Rule E S} {e : E} {one : List (Row E S)} (w1 : Refreshed m rows p e (left_by h n.v r) (right_by h n.v r) one) where
    abbrev moved : Shape E S
    moved = over h m p e n.v r

    pub moved_is : Rooted one (Some p) moved
    moved_is = (refl, put_over h n.v r w1 o.within (omega (arith, p_apart)) n.far_is.1 o.other_is.1)

    pub single_top_sides : Sides one outer (Some p)
    single_top_sides =
        let v = comes_over h m p e n.v r in
        part_sides n.u moved (omega (arith, v.count)) (omega arith) (omega (arith, v.depth)) (outer_stays w1) moved_is

    pub rotated : {last : List (Row E S)} → depth_of n.v ≤ depth_of n.u → Refreshed m one q f (left_by h n.u moved) (right_by h n.u moved) last → Rebalanced m rows last p e q (left_by h t r) (right_by h t r)
    rotated deeper w2 =
        let inside = comes_over h m p e n.v r in
        let whole = comes_over h m q f n.u moved in
        turned h t r o.tall (record {
          t = over h m q f n.u moved;
          rooted = (refl, put_over h n.u moved w2 (within_put w1 q n.within) (omega (arith, q_apart, inside.places q)) (outer_stays w1).1 moved_is.1);
          balanced = balanced_over h m q f n.u moved (omega arith) (omega arith) n.near_balanced (balanced_over h m p e n.v r (omega arith) (omega arith) n.far_balanced o.other_balanced);
          at_least = omega arith;
          at_most = omega arith;
          places = λ k. omega (arith, whole.places k, inside.places k, n.comes.places k);
          holds = whole.list ∙ ap (λ z. list_by h (elements n.u) f z) inside.list ∙ regrouped h (elements n.u) f (elements n.v) e (elements r) ∙ ap (λ z. list_by h z e (elements r)) (sym n.comes.list);
          long = long_put w1 ∙ long_put w2;
          kept = λ k d z. kept_put w2 k d (omega (arith, n.comes.places k)) ∙ kept_put w1 k d (omega arith);
          told = λ s. let part = n.told m s.0 in told_over h m q f n.u moved part.0 (told_over h m p e n.v r part.1 s.1);
        })

-- the same where the inner part is the deeper one, and is taken apart at its top s
module _ {E S : Type 0} {rows : List (Row E S)} {p q s : ℕ} {side other outer inner near far : Option ℕ} {h : Hand} {f g : E} {t r : Shape E S} (o : TooDeep rows p side other t r) (n : Opened h rows q f outer inner t) (i : Opened h rows s g near far n.v) where
  pub double_sides : Sides rows far other
  double_sides = part_sides o n i.v r (omega arith) (omega arith) (omega arith) i.far_is o.other_is

  module _ {m : Rule E S} {e : E} {one : List (Row E S)} (w1 : Refreshed m rows p e (left_by h i.v r) (right_by h i.v r) one) where
    abbrev p_over : Shape E S
    p_over = over h m p e i.v r

    pub double_near : Rooted one near i.u
    double_near = (i.near_is.0, lies_put w1 i.u (omega (arith, p_apart o n, i.comes.places p)) i.near_is.1)

    pub double_q_sides : Sides one outer near
    double_q_sides = part_sides o n n.u i.u (omega arith) (omega arith) (omega arith) (outer_stays o n w1) double_near

    module _ {two : List (Row E S)} (w2 : Refreshed m one q f (left_by h n.u i.u) (right_by h n.u i.u) two) where
      abbrev q_over : Shape E S
      q_over = over h m q f n.u i.u

      pub double_p : Rooted two (Some p) p_over
      double_p =
          let apart : times q p_over ≡ 0 = omega (arith, q_apart o n, i.comes.places q, (comes_over h m p e i.v r).places q) in
          (refl, lies_put w2 p_over apart (put_over h i.v r w1 o.within (omega (arith, p_apart o n, i.comes.places p)) i.far_is.1 o.other_is.1))

      pub double_q : Rooted two (Some q) q_over
      double_q = (refl, put_over h n.u i.u w2 (within_put w1 q n.within) (omega (arith, q_apart o n, i.comes.places q)) (outer_stays o n w1).1 double_near.1)

      pub double_top_sides : Sides two (Some q) (Some p)
      double_top_sides =
          let u = comes_over h m q f n.u i.u in
          let v = comes_over h m p e i.v r in
          part_sides o n q_over p_over (omega (arith, u.count, v.count)) (omega (arith, u.depth)) (omega (arith, v.depth)) double_q double_p

      pub twice_rotated : {last : List (Row E S)} → depth_of n.u < depth_of n.v → Refreshed m two s g (left_by h q_over p_over) (right_by h q_over p_over) last → Rebalanced m rows last p e s (left_by h t r) (right_by h t r)
      twice_rotated deeper w3 =
          let low = comes_over h m p e i.v r in
          let up = comes_over h m q f n.u i.u in
          let whole = comes_over h m s g q_over p_over in
          let apart : times s q_over + times s p_over ≡ 0 = omega (arith, o.places s, n.comes.places s, i.comes.places s, same_self s, low.places s, up.places s) in
          let xs = elements n.u in
          let ys = elements i.u in
          let zs = elements i.v in
          turned h t r o.tall (record {
            t = over h m s g q_over p_over;
            rooted = (refl, put_over h q_over p_over w3 (within_put w2 s (within_put w1 s i.within)) apart double_q.1 double_p.1);
            balanced = balanced_over h m s g q_over p_over (omega arith) (omega arith) (balanced_over h m q f n.u i.u (omega arith) (omega arith) n.near_balanced i.near_balanced) (balanced_over h m p e i.v r (omega arith) (omega arith) i.far_balanced o.other_balanced);
            at_least = omega arith;
            at_most = omega arith;
            places = λ k. omega (arith, whole.places k, low.places k, up.places k, n.comes.places k, i.comes.places k);
            holds = whole.list ∙ ap (λ z. list_by h z g (elements p_over)) up.list ∙ ap (λ z. list_by h (list_by h xs f ys) g z) low.list ∙ sym (regrouped h xs f ys g (list_by h zs e (elements r)))
                ∙ ap (list_by h xs f) (regrouped h ys g zs e (elements r)) ∙ regrouped h xs f (list_by h ys g zs) e (elements r)
                ∙ ap (λ z. list_by h (list_by h xs f z) e (elements r)) (sym i.comes.list) ∙ ap (λ z. list_by h z e (elements r)) (sym n.comes.list);
            long = long_put w1 ∙ long_put w2 ∙ long_put w3;
            kept = λ k d z. kept_put w3 k d (omega (arith, n.comes.places k, i.comes.places k)) ∙ kept_put w2 k d (omega (arith, n.comes.places k)) ∙ kept_put w1 k d (omega arith);
            told = λ w. let part = n.told m w.0 in let far = i.told m part.1 in told_over h m s g q_over p_over (told_over h m q f n.u i.u part.0 far.0) (told_over h m p e i.v r far.1 w.1);
          })

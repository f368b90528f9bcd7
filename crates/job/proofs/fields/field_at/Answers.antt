use Rattle.std.proofs.Common.{◌≡◌, ◌+◌, ◌-◌, length, take, drop, Some, Ok, sym, refl, ap, ◌∙◌, arith, rules, length-drop}
use Rattle.std.proofs.lemmas.List.{drop-drop, take_rest}
use Rattle.job.specs.Fields.{length_of, tag_of, body_at, found}
use Rattle.job.specs.Numbers.{byte_at, u16_at}
use Rattle.job.proofs.Bodies.{byte_part, two_part, body_part, found_there}
use Rattle.job.proofs.fields.field_at.Goals as goal

pub returns-clause-value : goal.returns-clause-value
returns-clause-value c =
    let bs = c.args.job.now in
    let at = c.args.at in
    let it = c.in-Ok.tag in
    let n = length_of it in
    let split = c.in-Some.ensures.cases in
    let field : take (length bs - at) (drop at bs) ≡ drop at bs = take_rest bs at in
    let head : c.in-Some.head.now ≡ take 3 (drop at bs) = split.0 ∙ ap (take 3) field in
    let rest : c.in-Some.rest.now ≡ drop (at + 3) bs = split.1 ∙ ap (drop 3) field ∙ drop-drop 3 at bs in
    let look = c.in-Some-get.ensures.lookup.0 in
    let size : c.from.result ≡ n = c.from.ensures ∙ c.body_length-length.ensures in
    let part : c.in-Some-get.body.now ≡ take n (drop (at + 3) bs) = look.2 ∙ (let whole : c.from.result - 0 ≡ n = omega (arith, size) in λ i. take (whole i) (rest i)) in
    let tag : tag_of (byte_at c.in-Some.head.now 0) ≡ Some it = search rules in
    let long : u16_at c.in-Some.head.now 1 ≡ n = search rules in
    let known : tag_of (byte_at bs at) ≡ Some it = ap tag_of (sym (byte_part bs c.in-Some.head.now at 3 head 0 at (omega arith) (omega arith))) ∙ tag in
    let right : u16_at bs (at + 1) ≡ n = sym (two_part bs c.in-Some.head.now at 3 head 1 (at + 1) refl (omega arith)) ∙ long in
    let body : c.body_of.result ≡ body_at it bs (at + 3) = c.body_of.ensures ∙ body_part bs c.in-Some-get.body.now (at + 3) n part it refl in
    let next : at + 3 + length c.in-Some-get.body.now ≡ at + 3 + n = omega (arith, look.3, size) in
    (λ i. Ok (found (body i) (next i))) ∙ sym (found_there bs at it known right (omega (arith, look.1, size, split.2, ap length field, length-drop at bs)))

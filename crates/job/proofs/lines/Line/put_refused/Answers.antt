use Rattle.std.proofs.Common.{◌≡◌, ◌++◌, codes, decimal, ap, ◌∙◌, subst, arith}
use Rattle.refusals.specs.Table.{number_of, layer_of, name_of, named_of}
use Rattle.job.specs.Lines.{Grown, place_named, named_part}
use Rattle.job.proofs.Laying.{grown_then}
use Rattle.job.proofs.lines.Line.put_refused.Goals as goal

pub returns-clause-grown : goal.returns-clause-grown
returns-clause-grown c =
    let why = c.args.why in
    let h1 = grown_then (codes "refused ") _ _ _ _ (omega arith) c.put.ensures.grown c.put_number.ensures.grown in
    let h2 = grown_then _ (codes " ") _ _ _ (omega arith) h1 c.put-2.ensures.grown in
    let h3 = grown_then _ _ _ _ _ (omega arith) h2 c.put_layer.ensures.grown in
    let h4 = grown_then _ (codes " ") _ _ _ (omega arith) h3 c.put-3.ensures.grown in
    let h5 = grown_then _ _ _ _ _ (omega arith) h4 c.put_number-2.ensures.grown in
    let h6 = grown_then _ _ _ _ _ (omega arith) h5 c.put_named.ensures.grown in
    let h7 = grown_then _ (codes "\n") _ _ _ (omega arith) h6 c.put-4.ensures.grown in
    let number : c.from.result ≡ number_of why = c.from.ensures ∙ c.number.ensures in
    let name : name_of c.layer.result ≡ name_of (layer_of why) = ap name_of c.layer.ensures in
    let place : c.place_named.result ≡ place_named (named_of why) c.args.at = c.place_named.ensures ∙ ap (λ n. place_named n c.args.at) c.named.ensures in
    subst (λ bs. Grown bs c.args.self.now c.put-4.new.self)
    (λ i. codes "refused " ++ decimal (number i) ++ codes " " ++ name i ++ codes " " ++ decimal (place i) ++ named_part (c.named-2.ensures i) ++ codes "\n") h7

use Rattle.std.proofs.Common.{◌≡◌, map, sum, nat_abs, sym, ◌∙◌, rules}
use Rattle.std.proofs.lemmas.List.Sums.{sum-map}
use Rattle.host.proofs.AbsoluteSums.{abs_sum-is_sum}
use Rattle.host.proofs.counts.absolute_sum.Goals as goal

pub returns : goal.returns
returns c =
    let total : c.sum.result ≡ sum (map nat_abs c.args.counts.now) = search rules in
    total ∙ sum-map nat_abs c.args.counts.now ∙ sym (abs_sum-is_sum c.args.counts.now)

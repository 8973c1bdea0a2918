use Rattle.std.proofs.Common.{◌≡◌, ◌++◌, length, drop, replicate, ap, ◌∙◌, rules, length-take-le}
use Rattle.board.proofs.Fills.{all_alike}
use Rattle.board.proofs.bank.fill_cells.Goals as goal

pub returns : goal.returns
returns g c =
    let n : length c.fill_with.new.self ≡ c.args.n = c.fill_with.ensures.len ∙ length-take-le c.args.n c.args.cells.now c.requires in
    ap (λ xs. xs ++ drop c.args.n c.args.cells.now)
    (all_alike _ c.args.x _ _ _ (λ y q r. search rules) c.fill_with.ensures.ran.1 ∙ ap (λ m. replicate m c.args.x) n)

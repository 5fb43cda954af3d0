-- `calls_size::size::set_lengths`: it is `resize` with the position left out.
use Rattle.std.proofs.Common.{ap, ◌∙◌}
use Rattle.model.specs.Calls.{reply}
use Rattle.calls_size.proofs.SizeLaws.{set_is}
use Rattle.calls_size.proofs.size.set_lengths.Goals as goal

pub returns : goal.returns
returns c =
    let args = c.args in
    let resize = c.resize-r in
    ap (reply _) c.unnumbered.ensures ∙ set_is _ args.at args.lengths _ resize.ensures

-- `calls_size::size::update`: it is `resize` with the position asked for.
use Rattle.std.proofs.Common.{◌∙◌}
use Rattle.calls_size.proofs.SizeLaws.{update_is}
use Rattle.calls_size.proofs.size.update.Goals as goal

pub returns : goal.returns
returns c =
    let resize = c.resize in
    let args = c.args in
    resize.ensures ∙ update_is _ args.at args.lengths

use Rattle.std.proofs.Common.{◌≡◌, length, arith}
use Rattle.deck_stacks.proofs.Tops.{is_cut}
use Rattle.deck_stacks.proofs.stack.Stack.cut.Goals as goal

pub returns : goal.returns
returns c =
    let size : c.len.result ≡ length c.self.inside.parts.items = omega arith in
    is_cut c.self.inside.parts.items c.truncate.new.self.items c.args.self.now c.args.count
    c.len.result c.truncate.ensures.items size c.self.view_is c.requires

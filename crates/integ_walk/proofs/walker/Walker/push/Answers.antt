use Rattle.std.proofs.Common.{◌≡◌, ◌∙◌, [], ◌∷◌, ◌++◌, map, ap, arith}
use Rattle.std.specs.Prelude.{slice_index}
use Rattle.std.proofs.lemmas.Grind.{get_or_default_zero}
use Rattle.integ_block.specs.Child.{child_of}
use Rattle.integ_walk.specs.Frame.{all_links}
use Rattle.integ_walk.specs.Link.{links_of}
use Rattle.integ_walk.specs.declared.frame.Frame.{Frame}
use Rattle.integ_walk.proofs.FrameLemmas.{links_push}
use Rattle.integ_walk.proofs.walker.Walker.push.Goals as goal

pub returns-clause-links : goal.returns-clause-links
returns-clause-links c =
    let old = c.args.self.now.frames.items in
    let bytes = c.args.self.now.block.items in
    let frame : Frame =
    record {
      path = c.args.at.path;
      block = c.args.at.visit.block;
      level = c.index.result.now;
      children =
          c.into_iter.result;
    } in
    let pushed : c.push.new.self.items ≡ old ++ frame ∷ [] = c.in_ok-push.ensures.items in
    let level : c.index.result.now ≡ slice_index bytes 3 = c.index.ensures
    ∙ get_or_default_zero bytes 3 _ (omega (arith, c.requires)) in
    ap all_links pushed
    ∙ links_push old frame
    ∙ (λ i. links_of c.args.at.path c.args.at.visit.block (level i) (map child_of (c.into_iter.ensures.rest i))
    ++ all_links old)

use Rattle.std.proofs.Common.{◌≡◌, ◌+◌, ◌-◌, [], ◌∷◌, length, take, slice_set, ◌∙◌, sym, ap, arith}
use Rattle.integ_walk.specs.Frame.{all_links, link_of}
use Rattle.integ_walk.proofs.FrameLemmas.{links_given, links_gone, links_none, take_set}
use Rattle.integ_walk.proofs.frame.next_link.Goals as goal

pub returns-in-Some-next_link-clause-links : goal.returns-in-Some-next_link-clause-links
returns-in-Some-next_link-clause-links c =
    let frames = c.loop-last.frames.items in
    let last : c.in-Some.last + 1 ≡ length frames = omega (arith, c.in-Some.ensures, c.len.ensures) in
    c.loop-last.invariant
    ∙ links_given frames c.in-Some.last c.index_mut.result.now c.next_link.new.self last c.index_mut.ensures.value
    (link_of c.in-Some-next_link.link ∷ []) c.in-Some-next_link.ensures.links

pub loop-last-preserved-in_default-next_link : goal.loop-last-preserved-in_default-next_link
loop-last-preserved-in_default-next_link c =
    let frames = c.loop-last.frames.items in
    let k = c.in-Some.last in
    let old = c.index_mut.result.now in
    let new = c.next_link.new.self in
    let last : k + 1 ≡ length frames = omega (arith, c.in-Some.ensures, c.len.ensures) in
    let less : k ≡ c.loop-last.frames.len - 1 = omega (arith, c.in-Some.ensures, c.len.ensures) in
    c.loop-last.invariant
    ∙ links_gone frames k old new last c.index_mut.ensures.value c.in_default-next_link.ensures.end
    ∙ ap all_links (sym (take_set frames k old new last c.index_mut.ensures.value))
    ∙ ap (λ n. all_links (take n (slice_set frames k new))) less
    ∙ ap all_links (sym c.pop.ensures.rest)

pub returns-clause-end : goal.returns-clause-end
returns-clause-end c = links_none c.loop-last.frames.items (omega (arith, c.in_default.ensures, c.len.ensures))

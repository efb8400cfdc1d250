-- What clauses see of links, of frames and of a walker.
use Rattle.std.specs.Prelude.{List, map, flat_map, reverse}
use Rattle.std.specs.Vec.Iter.{into_iter_items}
use Rattle.gds_header.specs.declared.header.Header.{Header}
use Rattle.integ_block.specs.Child.{child_of}
use Rattle.integ_walk.specs.Link as walk
use Rattle.integ_walk.specs.Link.{links_of}
use Rattle.integ_walk.specs.Walker.{State}
use Rattle.integ_walk.specs.declared.link.Link.{Link}
use Rattle.integ_walk.specs.declared.frame.Frame.{Frame}
use Rattle.integ_walk.specs.declared.walker.Walker.{Walker}

abbrev pub link_of : Link → walk.Link
link_of link = record { path = link.path; block = link.block; level = link.level; child = child_of link.child }

-- the links of a frame's children, and those of all frames, of which the last one comes first
abbrev pub links_in : Frame → List walk.Link
links_in frame = links_of frame.path frame.block frame.level (map child_of (into_iter_items frame.children))

unfoldable pub all_links : List Frame → List walk.Link
all_links frames = flat_map links_in (reverse frames)

-- the state of a walk of a file with a header
abbrev pub state_of : Header → Walker → State
state_of h w = record {
  header = h;
  used = w.used.bytes.items;
  count = w.faults;
  links = all_links w.frames.items;
}

use Rattle.std.proofs.Common.{◌-◌, ◌∙◌, length, take, drop, ap, arith}
use Rattle.std.proofs.lemmas.Slice.{between_to_end}
use Rattle.m_key.specs.KeyEnd.{shared}
use Rattle.gds_pack.specs.Entry.{item}
use Rattle.gds_pack.proofs.PackLemmas.{record_put}
use Rattle.gds_pack.proofs.packing.write_record.Goals as goal

pub returns-clause-written : goal.returns-clause-written
returns-clause-written c =
    let key = c.as_slice-2.result.now in
    let count = c.shared_len-count.result in
    let body = take (length key - count) (drop count key) in
    let i = item c.args.entry.now in
    record_put c.args.previous.now i c.args.at count body c.as_slice-rest.result.now c.args.out.now _ _ _ _
    (c.shared_len-count.ensures.value ∙ ap (shared c.args.previous.now) c.as_slice.ensures.value)
    (between_to_end key count (length key) (omega arith) ∙ ap (drop count) c.as_slice-2.ensures.value)
    c.as_slice-rest.ensures.value c.requires.fits
    c.put_u16.ensures c.put_u16-2.ensures c.put_bytes.ensures c.put_bytes-2.ensures

use Rattle.std.proofs.Common.{drop, List, ℕ, sym}
use Rattle.std.proofs.lemmas.List.{take_rest}
use Rattle.m_text.proofs.RunLemmas.{first_printable, first_unprintable, run_appended}
use Rattle.m_text.proofs.printing.push_run.Goals as goal

pub returns-in_ok-push_quoted-clause-ok : goal.returns-in_ok-push_quoted-clause-ok
returns-in_ok-push_quoted-clause-ok c =
    let v : List ℕ = c.args.value.now in
    let n : ℕ = c.printable_len-len.result in
    rw (take_rest v n) (run_appended v (drop n v) c.args.out.now.items c.push_quoted.new.out.items _
    (first_printable v n c.requires (sym c.if-is_printable.ensures) c.printable_len-len.ensures)
    c.in_ok-push_quoted.ensures.ok)

pub returns-in_ok-push_coded-clause-ok : goal.returns-in_ok-push_coded-clause-ok
returns-in_ok-push_coded-clause-ok c =
    let v : List ℕ = c.args.value.now in
    let n : ℕ = c.unprintable_len-len.result in
    rw (take_rest v n) (run_appended v (drop n v) c.args.out.now.items c.push_coded.new.out.items _
    (first_unprintable v n c.requires (sym c.if-is_printable.ensures) c.unprintable_len-len.ensures)
    c.in_ok-push_coded.ensures.ok)

use Rattle.std.proofs.Common.{◌≡◌, ◌++◌, codes, refl, arith}
use Rattle.std.specs.Fmt.{decimal}
use Rattle.std.proofs.lemmas.Grind.{common_steps}
use Rattle.host_model.proofs.FailureLemmas.{NeverFell-refl, NeverFell-trans}
use Rattle.host_model.proofs.FrameLemmas.{TellsOn-some}
use Rattle.host_model.proofs.MomentLemmas.{LeavesTheSame-refl}
use Rattle.gds_create.specs.Newborn.{IsMade}
use Rattle.gds_cli.specs.Answer.{created, line, not_empty}
use Rattle.gds_cli.specs.declared.status.Status.TheVariants as ended
use Rattle.gds_cli.proofs.CreateLemmas.{ends_kept, ends_made, ends_torn, ends_unwritten, made_leaves, none_leaves}
use Rattle.gds_cli.proofs.CreateLemmas.{kept_by, not_done, not_made, said_empty, said_leaves, some_created}
use Rattle.gds_cli.proofs.DueLemmas.{not_both}
use Rattle.gds_cli.proofs.MomentLemmas.{same_then}
use Rattle.gds_cli.proofs.create.create.Goals as goal

pub returns-in_default-clause-host : goal.returns-in_default-clause-host
returns-in_default-clause-host g c = record {
  told = ends_unwritten c.args.header.now _ _ ended.Memory refl refl;
  failures = NeverFell-refl _;
}

pub returns-in-Ok-create_files-clause-host : goal.returns-in-Ok-create_files-clause-host
returns-in-Ok-create_files-clause-host g c =
    let text : c.as_str.result.now ≡ line (codes "CREATED " ++ decimal c.args.header.now.total) =
    grind (arith, common_steps) in
    record {
      told = ends_made c.args.header.now _ _ _ c.as_str.result.now c.say.result text c.in-Ok-create_files.ensures.made
          c.say.ensures.host.told;
      failures = NeverFell-trans _ _ _ c.create_files.ensures.failures c.say.ensures.host.failures;
    }

pub returns-in-Err-NotEmpty-clause-host : goal.returns-in-Err-NotEmpty-clause-host
returns-in-Err-NotEmpty-clause-host g c =
    let says = c.say-in-Err-NotEmpty in
    record {
      told = ends_kept c.args.header.now _ _ _ says.result (c.in-Err-NotEmpty.ensures.unwritten (λ e. cc)).told
          (rw c.in-Err-NotEmpty.field-0-is at c.in-Err-NotEmpty.ensures.cause) says.ensures.host.told;
      failures = NeverFell-trans _ _ _ c.create_files.ensures.failures says.ensures.host.failures;
    }

pub returns-clause-host : goal.returns-clause-host
returns-clause-host g c = record {
  told = ends_torn c.args.header.now _ _
      (rw c.in-Err-WriteFault.field-0-is at c.in-Err-WriteFault.ensures.cause).1 c.create_files.ensures.told;
  failures = c.create_files.ensures.failures;
}

pub returns-in_default-clause-crash : goal.returns-in_default-clause-crash
returns-in_default-clause-crash g c x tells =
    let laws = g.met.H.Host in
    let header = c.args.header.now in
    not_made header c.requires (created header.total).text x c.args.host.now c.args.host.now header.total _ refl
    (λ is. cc)
    (none_leaves header c.requires (created header.total).text x laws.longer (some_created header.total)
    c.args.host.now laws.said_stays tells)
    (λ some. kept_by (LeavesTheSame-refl _ _ c.args.host.now))

pub returns-in-Ok-create_files-clause-crash : goal.returns-in-Ok-create_files-clause-crash
returns-in-Ok-create_files-clause-crash g c x tells =
    let h = g.H.Host in
    let laws = g.met.H.Host in
    let header = c.args.header.now in
    let text : c.as_str.result.now ≡ line (codes "CREATED " ++ decimal header.total) = grind (arith, common_steps) in
    let made = TellsOn-some (h.told c.args.host.now) (h.told c.create_files.new.host) (IsMade header) x tells
    c.in-Ok-create_files.ensures.made in
    let stable = c.in-Ok-create_files.ensures.stable made.0 made.1 in
    record {
      empty = λ each.
          said_leaves header c.requires (created header.total).text x laws.longer (some_created header.total)
          c.as_str.result.now text _ _ _ made.0 made.2 stable (c.create_files.ensures.any_moment x tells each)
          c.say.ensures.any_moment;
      done = λ _.
          said_empty header c.requires (created header.total).text x laws.longer (some_created header.total)
          c.as_str.result.now text _ _ made.0 made.2 stable c.say.ensures.any_moment;
      bytes = λ some. absurd (not_both x made.2.empty some);
    }

pub returns-in-Err-NotEmpty-clause-crash : goal.returns-in-Err-NotEmpty-clause-crash
returns-in-Err-NotEmpty-clause-crash g c x tells =
    let header = c.args.header.now in
    let some = (rw c.in-Err-NotEmpty.field-0-is at c.in-Err-NotEmpty.ensures.cause) x tells in
    record {
      empty = λ each. absurd (not_both x (each x (g.met.H.Host.now_left c.args.host.now x tells)) some);
      done = λ is. absurd (not_done c.say-in-Err-NotEmpty.ensures.status is);
      bytes = λ _.
          same_then g.met.H.Host.longer not_empty.text (c.in-Err-NotEmpty.ensures.unwritten (λ e. cc)).crash
          c.say-in-Err-NotEmpty.ensures.any_moment;
    }

pub returns-in-Err-Memory-clause-crash : goal.returns-in-Err-Memory-clause-crash
returns-in-Err-Memory-clause-crash g c x tells =
    let header = c.args.header.now in
    not_made header c.requires (created header.total).text x c.args.host.now c.create_files.new.host header.total _
    refl (λ is. cc)
    (λ each. made_leaves header c.requires (created header.total).text x g.met.H.Host.longer
    (some_created header.total) _ _ (c.create_files.ensures.any_moment x tells each))
    (λ some. kept_by (c.in-Err-Memory.ensures.unwritten (λ e. cc)).crash)

pub returns-in-Err-ReadFault-clause-crash : goal.returns-in-Err-ReadFault-clause-crash
returns-in-Err-ReadFault-clause-crash g c x tells =
    let header = c.args.header.now in
    not_made header c.requires (created header.total).text x c.args.host.now c.create_files.new.host header.total _
    refl (λ is. cc)
    (λ each. made_leaves header c.requires (created header.total).text x g.met.H.Host.longer
    (some_created header.total) _ _ (c.create_files.ensures.any_moment x tells each))
    (λ some. kept_by (c.in-Err-ReadFault.ensures.unwritten (λ e. cc)).crash)

pub returns-clause-crash : goal.returns-clause-crash
returns-clause-crash g c x tells =
    let header = c.args.header.now in
    let empty = (rw c.in-Err-WriteFault.field-0-is at c.in-Err-WriteFault.ensures.cause).1 x tells in
    not_made header c.requires (created header.total).text x c.args.host.now c.create_files.new.host header.total _
    refl (λ is. cc)
    (λ each. made_leaves header c.requires (created header.total).text x g.met.H.Host.longer
    (some_created header.total) _ _ (c.create_files.ensures.any_moment x tells each))
    (λ some. absurd (not_both x empty some))

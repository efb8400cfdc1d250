use Rattle.std.proofs.Common.{◌∙◌, ap, subst, sym}
use Rattle.m_key.specs.KeyEnd.{IsKey}
use Rattle.m_key.specs.Reference.{name_bytes}
use Rattle.gds_globals.specs.Node.{name_key}
use Rattle.gds_globals.proofs.NameLemmas.{is_name_key}
use Rattle.gds_globals.proofs.asking.directory_key.Goals as goal

pub returns-clause-whole : goal.returns-clause-whole
returns-clause-whole c =
    subst IsKey (sym (c.join_key.ensures ∙ ap name_key c.bytes.ensures))
    (is_name_key (name_bytes c.args.name.now) c.args.name.now.is_name)

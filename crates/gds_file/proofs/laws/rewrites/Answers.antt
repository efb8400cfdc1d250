use Rattle.gds_file.proofs.RewriteLemmas.{rewrite_keeps_header, rewrite_stays_lawful, rewrite_is_reshape}
use Rattle.gds_file.proofs.RewriteLemmas.{rewrites_compose}
use Rattle.gds_file.proofs.laws.rewrites.Goals as goal

pub returns-clause-header : goal.returns-clause-header
returns-clause-header c = rewrite_keeps_header

pub returns-clause-lawful : goal.returns-clause-lawful
returns-clause-lawful c = rewrite_stays_lawful

pub returns-clause-reshapes : goal.returns-clause-reshapes
returns-clause-reshapes c = rewrite_is_reshape

pub returns-clause-compose : goal.returns-clause-compose
returns-clause-compose c = rewrites_compose

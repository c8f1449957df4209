-- `build_all` lays every plane's table (document 01, "Words and lookup").
use Rattle.tables.proofs.Laying.{laid_first, laid_next, laid_tables, laid_all}
use Rattle.tables.proofs.build_all.Goals as goal

pub loop-p-init : goal.loop-p-init
loop-p-init c = search laid_first

pub loop-p-preserved : goal.loop-p-preserved
loop-p-preserved c = search laid_next

pub returns-clause-tables : goal.returns-clause-tables
returns-clause-tables c = search laid_tables

pub returns-clause-workspace : goal.returns-clause-workspace
returns-clause-workspace c = search laid_all

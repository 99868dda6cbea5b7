use Rattle.sync_driver.proofs.formats.bring.Goals as goal

pub returns-in-Delta : goal.returns-in-Delta
returns-in-Delta g c = rw c.in-Delta.is (c.new.result, c.bring_each.ensures)

pub returns-in-Iceberg : goal.returns-in-Iceberg
returns-in-Iceberg g c = rw c.in-Iceberg.is (c.new-in-Iceberg.result, c.bring_each-in-Iceberg.ensures)

pub returns-in-Hudi : goal.returns-in-Hudi
returns-in-Hudi g c = rw c.in-Hudi.is (c.new-in-Hudi.result, c.bring_each-in-Hudi.ensures)

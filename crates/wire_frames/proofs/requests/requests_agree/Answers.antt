use Rattle.std.proofs.Common.{arith}
use Rattle.log_records.specs.Layout.{IsLayout, second_layout}
use Rattle.wire_frames.proofs.Asked.{read_is_spelled, spelled_is_read}
use Rattle.wire_frames.proofs.requests.requests_agree.Goals as goal

pub returns-clause-read : goal.returns-clause-read
returns-clause-read c =
    let room : IsLayout second_layout = omega arith in
    let fields = c.fields_agree.ensures in
    read_is_spelled (record { keys = fields.key second_layout room; values = fields.some_value; funcs = fields.func; thresholds = fields.number 8; records = c.record_agrees.ensures second_layout room })

pub returns-clause-spelled : goal.returns-clause-spelled
returns-clause-spelled c =
    let room : IsLayout second_layout = omega arith in
    let fields = c.fields_agree.ensures in
    spelled_is_read (record { keys = fields.key second_layout room; values = fields.some_value; funcs = fields.func; thresholds = fields.number 8; records = c.record_agrees.ensures second_layout room })

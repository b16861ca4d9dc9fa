-- each part is that of the row
use Rattle.snapshot_check.proofs.differing.root_key.Goals as goal

pub returns : goal.returns
returns c = λ i. record {
  service = c.service_at-service.ensures i;
  name = record {
    activity = c.activity_number-activity.ensures i;
    address = c.text_bytes-address.ensures i;
    event_type = c.text_bytes-event_type.ensures i;
    event = c.event_number-event.ensures i;
    custom = c.blob_bytes-custom.ensures i;
  };
}

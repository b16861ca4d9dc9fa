mod FillLemmas
mod FilledLemmas
mod OrderedLemmas
mod KeptLemmas
mod LinkLemmas
mod EntityLemmas
mod ReadyLemmas
mod SoundLemmas

mod Losing
mod Sending
mod Returning
mod Gathering
